use Rattle.std.proofs.Common.{◌≡◌, ◌++◌, drop}
use Rattle.cases.specs.Trace.{operation_lines}
use Rattle.cases.proofs.trace.trace_text.Given as goal

abbrev pub invariant-loop-operation : goal.invariant-loop-operation
invariant-loop-operation l = l.text.items ++ operation_lines (drop l.operation-index l.operations) ≡ operation_lines l.operations
