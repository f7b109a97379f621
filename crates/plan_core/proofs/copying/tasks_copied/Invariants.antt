use Rattle.std.proofs.Common.{◌≡◌, take}
use Rattle.plan_core.proofs.copying.tasks_copied.Given as goal

abbrev pub invariant-loop-task : goal.invariant-loop-task
invariant-loop-task l = l.copies.items ≡ take l.task-index l.tasks
