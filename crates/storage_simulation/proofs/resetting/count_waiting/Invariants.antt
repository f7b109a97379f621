use Rattle.std.proofs.Common.{◌≡◌, ◌+◌, [], cond, drop}
use Rattle.plan_core.specs.Words.{task_numbers}
use Rattle.storage_simulation.specs.Ordering.{is_done}
use Rattle.storage_simulation.specs.code.Ordering.{progress}
use Rattle.storage_simulation.specs.Usage.{sum_of}
use Rattle.storage_simulation.proofs.resetting.count_waiting.Given as goal

abbrev pub invariant-loop-task : goal.invariant-loop-task
invariant-loop-task l = l.count + sum_of (λ u. cond (is_done (progress l.standing) [] u) 0 1) (task_numbers (drop l.task-index l.tasks)) ≡ sum_of (λ u. cond (is_done (progress l.standing) [] u) 0 1) (task_numbers l.tasks)
