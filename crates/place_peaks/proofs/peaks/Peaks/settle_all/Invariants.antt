use Rattle.std.proofs.Common.{◌≤◌, length, drop}
use Rattle.std.specs.Prelude.{replicate}
use Rattle.storage_simulation.specs.Goods.{makes}
use Rattle.place_peaks.specs.Settling.{AreLowered, IsKept}
use Rattle.place_peaks.proofs.peaks.Peaks.settle_all.Given as goal

abbrev pub invariant-loop-k : goal.invariant-loop-k
invariant-loop-k l = record {
  kept : IsKept l.initial.self l.self;
  lowered : AreLowered l.plan l.links l.initial.self l.self (drop l.k (makes l.plan l.task)) (drop l.k (replicate (length (makes l.plan l.task)) l.size));
  below : l.k ≤ length (makes l.plan l.task);
}

abbrev pub decreases-loop-k : goal.decreases-loop-k
decreases-loop-k l = l.k
