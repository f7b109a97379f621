use Rattle.std.proofs.Common.{◌≡◌, ◌<◌, ℕ, length, get_or, None}
use Rattle.storage_simulation.specs.code.Goods.{place}
use Rattle.place_peaks.proofs.opening.homes_of.Given as goal

abbrev pub invariant-loop-task : goal.invariant-loop-task
invariant-loop-task l = (length l.homes.items ≡ l.task) × ((t : ℕ) → t < l.task → get_or l.homes.items t None ≡ place l.plan t)
