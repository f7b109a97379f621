use Rattle.std.proofs.Common.{◌≡◌, ◌<◌, ℕ, length, get_or}
use Rattle.plan_core.specs.Words.{count_tasks}
use Rattle.storage_simulation.specs.Ordering.{comes}
use Rattle.storage_simulation.specs.code.Ordering.{progress}
use Rattle.storage_simulation.proofs.laying.fill_comes.Given as goal

abbrev pub invariant-loop-task : goal.invariant-loop-task
invariant-loop-task l = (length l.table.items ≡ count_tasks l.plan) × ((t : ℕ) → t < l.task → get_or l.table.items t 0 ≡ comes l.plan (progress l.standing) t)
