use Rattle.std.proofs.Common.{◌≡◌, ◌≤◌, ℕ, length, drop}
use Rattle.storage_simulation.specs.Goods.{makes}
use Rattle.storage_simulation.specs.code.Standings.{held_of, phase_of}
use Rattle.lease_book.specs.RunState.{HasLengths}
use Rattle.lease_rules.specs.State.{stored_among}
use Rattle.lease_book.proofs.holding.store_each.Given as goal

abbrev pub invariant-loop-k : goal.invariant-loop-k
invariant-loop-k l = record {
  held : (g : ℕ) → held_of l.standing g ≡ stored_among (drop l.k (makes l.plan l.task)) (drop l.k l.sizes) g (held_of l.initial.standing g);
  phase : phase_of l.standing ≡ phase_of l.initial.standing;
  long : HasLengths l.plan l.standing;
  below : l.k ≤ length (makes l.plan l.task);
}

abbrev pub decreases-loop-k : goal.decreases-loop-k
decreases-loop-k l = l.k
