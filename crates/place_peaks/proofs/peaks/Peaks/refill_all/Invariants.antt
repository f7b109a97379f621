use Rattle.std.proofs.Common.{◌≡◌, ◌<◌, ◌≤◌, ℕ, [], get_or, length}
use Rattle.std.specs.Prelude.{vec_capacity}
use Rattle.plan_core.specs.Words.{task_numbers}
use Rattle.storage_simulation.specs.code.Standings.{held_of}
use Rattle.storage_simulation.specs.Standings.{sizes}
use Rattle.place_peaks.specs.Renewing.{renewed_values}
use Rattle.place_peaks.proofs.peaks.Peaks.refill_all.Given as goal

abbrev pub invariant-loop-at : goal.invariant-loop-at
invariant-loop-at l = record {
  same : l.self ≡ record l.initial.self { trees = l.self.trees };
  long : length l.self.trees.items ≡ length l.initial.self.trees.items;
  filled : (q : ℕ) → q < l.at → get_or l.self.trees.items q [] ≡ renewed_values l.plan (sizes (held_of l.standing)) (task_numbers l.tasks) q (get_or l.initial.self.trees.items q []);
  others : (q : ℕ) → l.at ≤ q → get_or l.self.trees.items q [] ≡ get_or l.initial.self.trees.items q [];
  room : vec_capacity l.levels ≡ vec_capacity l.initial.levels;
}
