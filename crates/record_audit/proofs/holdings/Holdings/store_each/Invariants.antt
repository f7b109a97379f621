use Rattle.std.proofs.Common.{◌≡◌, ◌≤◌, ℕ, drop, length}
use Rattle.plan_core.specs.Words.{writes}
use Rattle.storage_simulation.specs.code.Standings.{at_in}
use Rattle.record_audit.specs.Holdings.{AddsUp, size_among}
use Rattle.record_audit.proofs.holdings.Holdings.store_each.Given as goal

abbrev pub invariant-loop-k : goal.invariant-loop-k
invariant-loop-k l = record {
  sizes : (g : ℕ) → at_in 0 l.self.sizes.items g ≡ size_among (drop l.k (writes l.plan l.task.0)) (drop l.k l.sizes) g (at_in 0 l.initial.self.sizes.items g);
  adds_up : AddsUp l.plan l.self;
  below : l.k ≤ length (writes l.plan l.task.0);
}

abbrev pub decreases-loop-k : goal.decreases-loop-k
decreases-loop-k l = l.k
