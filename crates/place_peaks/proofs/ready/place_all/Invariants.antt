use Rattle.std.proofs.Common.{◌≡◌, ◌<◌, ℕ, get_or, length}
use Rattle.plan_core.specs.Words.{task_numbers}
use Rattle.place_peaks.proofs.ready.place_all.Given as goal

abbrev pub invariant-loop-k : goal.invariant-loop-k
invariant-loop-k l = record {
  long : length l.positions.items ≡ length l.initial.positions.items;
  placed : (j : ℕ) → j < l.k → get_or l.positions.items (get_or (task_numbers l.seating.line.items) j 0) 0 ≡ j;
}
