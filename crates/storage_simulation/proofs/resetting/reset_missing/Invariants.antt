use Rattle.std.proofs.Common.{◌≡◌, ◌<◌, ℕ, [], length, get_or}
use Rattle.plan_core.specs.Words.{count_tasks}
use Rattle.storage_simulation.specs.code.Front.{missing}
use Rattle.storage_simulation.specs.code.Ordering.{progress}
use Rattle.storage_simulation.proofs.resetting.reset_missing.Given as goal

abbrev pub invariant-loop-task : goal.invariant-loop-task
invariant-loop-task l = (length l.counts.items ≡ count_tasks l.plan) × ((k : ℕ) → k < l.task → get_or l.counts.items k 0 ≡ missing l.plan (progress l.standing) [] k)
