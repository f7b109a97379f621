use Rattle.std.proofs.Common.{◌≡◌}
use Rattle.std.specs.Prelude.{vec_capacity}
use Rattle.plan_core.specs.Words.{task_numbers}
use Rattle.storage_simulation.specs.code.Standings.{held_of}
use Rattle.storage_simulation.specs.Standings.{sizes}
use Rattle.place_peaks.specs.Renewing.{IsLevel}
use Rattle.place_peaks.proofs.peaks.Peaks.find_levels.Given as goal

abbrev pub invariant-loop-k : goal.invariant-loop-k
invariant-loop-k l = record {
  level : IsLevel l.plan (sizes (held_of l.standing)) (task_numbers l.tasks) l.at l.k l.level l.levels.items;
  room : vec_capacity l.levels ≡ vec_capacity l.initial.levels;
}
