use Rattle.std.proofs.Common.{◌<◌, ℕ}
use Rattle.std.specs.Prelude.{slice_get}
use Rattle.plan_core.specs.code.Proper.{IsTask}
use Rattle.plan_core.proofs.tasks.are_tasks.Given as goal

abbrev pub invariant-loop-task : goal.invariant-loop-task
invariant-loop-task l = (t : ℕ) → t < l.task-index → IsTask l.plan (slice_get l.plan.tasks t)
