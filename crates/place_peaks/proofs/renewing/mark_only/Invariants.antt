use Rattle.std.proofs.Common.{◌≡◌, ℕ, length, take}
use Rattle.plan_core.specs.Numbers.{has}
use Rattle.plan_core.specs.Words.{task_numbers}
use Rattle.place_peaks.specs.Peaks.{is_left}
use Rattle.place_peaks.proofs.renewing.mark_only.Given as goal

abbrev pub invariant-loop-k : goal.invariant-loop-k
invariant-loop-k l = (length l.left.items ≡ length l.initial.left.items) × ((u : ℕ) → is_left l.left.items u ≡ has (take l.k (task_numbers l.tasks)) u)
