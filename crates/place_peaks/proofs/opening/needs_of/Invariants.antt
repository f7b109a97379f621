use Rattle.std.proofs.Common.{◌≡◌, ◌<◌, ◌≤◌, ◌^◌, ℕ, length, get_or, Some}
use Rattle.storage_simulation.specs.code.Change.{size_part}
use Rattle.storage_simulation.specs.Goods.{makes}
use Rattle.storage_simulation.specs.code.Goods.{place}
use Rattle.storage_simulation.specs.Usage.{sum_of}
use Rattle.place_peaks.proofs.opening.needs_of.Given as goal

abbrev pub invariant-loop-task : goal.invariant-loop-task
invariant-loop-task l = record {
  long : length l.needs.items ≡ l.task;
  each : (t q : ℕ) → t < l.task → place l.plan t ≡ Some q → get_or l.needs.items t 0 ≡ sum_of (size_part l.plan q) (makes l.plan t);
  small : (t : ℕ) → get_or l.needs.items t 0 ≤ 2 ^ 62;
}
