-- What a request that can't be read is answered with.
use Rattle.std.proofs.Common.{◌≡◌, ℕ, List, sym, ap}
use Rattle.std.specs.Prelude.{Result, Err}
use Rattle.peg_json.specs.code.ReadFault.{FailsRead}
use Rattle.peg_json.specs.declared.fault.TreeFault.TheVariants as faults
use Rattle.peg_json.specs.declared.read_fault.ReadFault.{ReadFault}
use Rattle.peg_json.specs.declared.read_fault.ReadFault.TheVariants as reads
use Rattle.plan_request.specs.Request.{request_from_text}
use Rattle.plan_request.specs.declared.request.PlanRequest.{PlanRequest}
use Rattle.planner.specs.code.PlanFault.{answered, read_fault}
use Rattle.planner.specs.declared.document.Document.TheVariants.{Request}
use Rattle.pegasus_commands.specs.declared.fault.CallFault.{CallFault}
use Rattle.pegasus_commands.specs.code.Course.{ButMemory, plan_answered, request_in_bytes}
use Rattle.pegasus_commands.specs.code.Fault.{plan_answer}

came_so : (bytes : List ℕ) (e : ReadFault) → request_from_text bytes ≡ Err e → ◌≡◌ {A = Result PlanRequest CallFault} (plan_answered (answered Request (Err e))) (request_in_bytes bytes)
came_so bytes e h = ap (λ (r : Result PlanRequest ReadFault). plan_answered (answered Request r)) (sym h)

pub request_fails : (bytes : List ℕ) (e : ReadFault) → FailsRead e (request_from_text bytes) → ButMemory {A = PlanRequest} (Err (plan_answer (read_fault Request e))) (◌≡◌ {A = Result PlanRequest CallFault} (Err (plan_answer (read_fault Request e))) (request_in_bytes bytes))
request_fails bytes (reads.Tree faults.Memory) h = tt
request_fails bytes (reads.Tree faults.Syntax) h = came_so bytes (reads.Tree faults.Syntax) h
request_fails bytes (reads.Tree (faults.MissingKey p)) h = came_so bytes (reads.Tree (faults.MissingKey p)) h
request_fails bytes (reads.Tree (faults.WrongKind p)) h = came_so bytes (reads.Tree (faults.WrongKind p)) h
request_fails bytes (reads.Tree (faults.OutOfRange p n)) h = came_so bytes (reads.Tree (faults.OutOfRange p n)) h
request_fails bytes (reads.Tree (faults.Unsupported p w)) h = came_so bytes (reads.Tree (faults.Unsupported p w)) h
request_fails bytes (reads.Tree (faults.BadVersion t)) h = came_so bytes (reads.Tree (faults.BadVersion t)) h
request_fails bytes (reads.TooMany c n limit) h = came_so bytes (reads.TooMany c n limit) h
request_fails bytes (reads.DuplicateJob id) h = came_so bytes (reads.DuplicateJob id) h
request_fails bytes (reads.DuplicateUse id lfn) h = came_so bytes (reads.DuplicateUse id lfn) h
request_fails bytes (reads.UnknownJob id) h = came_so bytes (reads.UnknownJob id) h
request_fails bytes (reads.DuplicateSite name) h = came_so bytes (reads.DuplicateSite name) h
request_fails bytes (reads.DuplicateTransformation name) h = came_so bytes (reads.DuplicateTransformation name) h
