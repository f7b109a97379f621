use Rattle.std.proofs.Common.{◌<◌, ℕ}
use Rattle.plan_core.specs.code.Proper.{AreParents}
use Rattle.plan_core.proofs.flow.are_parents.Given as goal

abbrev pub invariant-loop-t : goal.invariant-loop-t
invariant-loop-t l = (k : ℕ) → k < l.t → AreParents l.plan k
