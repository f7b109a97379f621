use Rattle.std.proofs.Common.{◌≡◌, ℕ, cond, take}
use Rattle.plan_core.specs.Numbers.{has}
use Rattle.plan_core.specs.Words.{writes}
use Rattle.storage_simulation.specs.code.Standings.{at_in}
use Rattle.record_audit.specs.Holdings.{AddsUp}
use Rattle.record_audit.proofs.holdings.Holdings.store.Given as goal

abbrev pub invariant-loop-k : goal.invariant-loop-k
invariant-loop-k l = record {
  sizes : (g : ℕ) → at_in 0 l.self.sizes.items g ≡ cond (has (take l.k (writes l.plan l.task.0)) g) (l.size) (at_in 0 l.initial.self.sizes.items g);
  adds_up : AddsUp l.plan l.self;
}
