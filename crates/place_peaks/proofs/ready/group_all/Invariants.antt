use Rattle.std.proofs.Common.{◌≡◌, ◌<◌, ℕ, get_or, length, None}
use Rattle.plan_core.specs.Words.{task_numbers}
use Rattle.storage_simulation.specs.Goods.{places}
use Rattle.place_peaks.specs.Ready.{group_of}
use Rattle.place_peaks.proofs.ready.group_all.Given as goal

abbrev pub invariant-loop-k : goal.invariant-loop-k
invariant-loop-k l = record {
  long : length l.groups.items ≡ length l.initial.groups.items;
  each : (j : ℕ) → j < l.k → get_or l.groups.items j 0 ≡ group_of (places l.plan) (get_or l.seating.homes.items (get_or (task_numbers l.seating.line.items) j 0) None);
}
