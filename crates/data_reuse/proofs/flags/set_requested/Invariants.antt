use Rattle.std.proofs.Common.{◌≡◌, ◌||◌, ◌&&◌, ℕ, length, drop, nat_eq}
use Rattle.std.specs.List.{list_any}
use Rattle.workflow_core.specs.declared.workflow.Output.{Output}
use Rattle.workflow_core.specs.Requested.{requests}
use Rattle.data_reuse.specs.code.Flags.{is_set}
use Rattle.data_reuse.proofs.flags.set_requested.Given as goal

abbrev pub invariant-loop-output : goal.invariant-loop-output
invariant-loop-output l = (length l.flags.items ≡ length l.fn.flags.items) × ((f : ℕ) → (list_any (λ (o : Output). o.stage_out && nat_eq o.file.0 f) (drop l.output-index l.output-items) || is_set l.flags.items f) ≡ (requests f l.fn.job || is_set l.fn.flags.items f))
