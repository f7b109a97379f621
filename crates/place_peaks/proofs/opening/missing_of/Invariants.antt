use Rattle.std.proofs.Common.{◌≡◌, ◌<◌, ℕ, length, get_or}
use Rattle.plan_core.specs.Words.{parents}
use Rattle.place_peaks.proofs.opening.missing_of.Given as goal

abbrev pub invariant-loop-task : goal.invariant-loop-task
invariant-loop-task l = (length l.missing.items ≡ l.task) × ((t : ℕ) → t < l.task → get_or l.missing.items t 1 ≡ length (parents l.plan t))
