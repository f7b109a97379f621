use Rattle.std.proofs.Common.{◌≡◌, drop, nat_eq}
use Rattle.workflow_core.specs.code.WellFormed.{are_new, are_distinct}
use Rattle.workflow_core.proofs.checking.are_distinct.Given as goal

abbrev pub invariant-loop-number : goal.invariant-loop-number
invariant-loop-number l = are_new nat_eq l.known.keys (drop l.number-index l.numbers) ≡ are_distinct nat_eq l.numbers
