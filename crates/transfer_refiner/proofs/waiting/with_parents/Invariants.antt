use Rattle.std.proofs.Common.{ℕ}
use Rattle.digraph.specs.code.Digraph.{edge}
use Rattle.transfer_refiner.specs.code.Steps.{AreParented}
use Rattle.transfer_refiner.proofs.waiting.with_parents.Given as goal

abbrev pub invariant-loop-t : goal.invariant-loop-t
invariant-loop-t l = AreParented (λ (t u : ℕ). edge l.stated u t) l.tasks l.done.items l.t
