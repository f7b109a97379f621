use Rattle.std.proofs.Common.{◌≡◌, ◌<◌, ℕ, true, [], length, get_or}
use Rattle.plan_core.specs.Words.{count_tasks}
use Rattle.storage_simulation.specs.Ordering.{is_done}
use Rattle.storage_simulation.specs.code.Ordering.{progress}
use Rattle.storage_simulation.proofs.resetting.reset_done.Given as goal

abbrev pub invariant-loop-task : goal.invariant-loop-task
invariant-loop-task l = (length l.done.items ≡ count_tasks l.plan) × ((k : ℕ) → k < l.task → get_or l.done.items k true ≡ is_done (progress l.standing) [] k)
