use Rattle.std.proofs.Common.{◌≡◌, ◌<◌, ◌≤◌, ℕ, [], length, get_or}
use Rattle.std.specs.Prelude.{vec_capacity}
use Rattle.plan_core.specs.Words.{task_numbers}
use Rattle.storage_simulation.specs.code.Standings.{held_of}
use Rattle.storage_simulation.specs.Standings.{sizes}
use Rattle.place_peaks.specs.Places.{held_by, there}
use Rattle.place_peaks.specs.Values.{all_left, values}
use Rattle.place_peaks.proofs.peaks.Peaks.plant.Given as goal

abbrev pub invariant-loop-at : goal.invariant-loop-at
invariant-loop-at l = record {
  long : length l.trees.items ≡ l.at;
  each : (q : ℕ) → q < l.at → get_or l.trees.items q [] ≡ values (there l.plan q) all_left (held_by l.plan (sizes (held_of l.standing)) q) [] (task_numbers l.order);
  room : length l.order ≤ vec_capacity l.levels;
}
