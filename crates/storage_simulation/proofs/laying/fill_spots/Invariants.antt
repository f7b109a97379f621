use Rattle.std.proofs.Common.{◌≡◌, ◌<◌, ℕ, length}
use Rattle.plan_core.specs.Words.{count_tasks}
use Rattle.storage_simulation.specs.code.Index.{home, need, spot_at}
use Rattle.storage_simulation.specs.code.Ordering.{progress}
use Rattle.storage_simulation.proofs.laying.fill_spots.Given as goal

abbrev pub invariant-loop-task : goal.invariant-loop-task
invariant-loop-task l = (length l.spots.items ≡ count_tasks l.plan) × ((t : ℕ) → t < l.task → spot_at l.spots.items t ≡ (home l.plan t, need l.plan (progress l.standing) t, t))
