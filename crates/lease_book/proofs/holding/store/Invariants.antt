use Rattle.std.proofs.Common.{◌≡◌, ℕ, cond, take}
use Rattle.plan_core.specs.Numbers.{has}
use Rattle.storage_simulation.specs.declared.standing.Held.TheVariants.{Stored}
use Rattle.storage_simulation.specs.Goods.{makes}
use Rattle.storage_simulation.specs.code.Standings.{held_of, phase_of}
use Rattle.lease_book.specs.RunState.{HasLengths}
use Rattle.lease_book.proofs.holding.store.Given as goal

abbrev pub invariant-loop-k : goal.invariant-loop-k
invariant-loop-k l = record {
  held : (g : ℕ) → held_of l.standing g ≡ cond (has (take l.k (makes l.plan l.task)) g) (Stored l.size) (held_of l.initial.standing g);
  phase : phase_of l.standing ≡ phase_of l.initial.standing;
  long : HasLengths l.plan l.standing;
}
