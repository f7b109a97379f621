use Rattle.std.proofs.Common.{take}
use Rattle.plan_core.specs.Numbers.{has}
use Rattle.storage_simulation.specs.code.Front.{front_of}
use Rattle.storage_simulation.specs.code.Index.{IsKeyed, IsLaid, IsToldBut}
use Rattle.storage_simulation.specs.code.Ordering.{progress}
use Rattle.storage_simulation.proofs.refreshing.touch_all.Given as goal

abbrev pub invariant-loop-task : goal.invariant-loop-task
invariant-loop-task l = IsLaid l.plan (progress l.standing) l.index × IsKeyed l.initial.index l.index × IsToldBut l.plan (progress l.standing) (front_of l.front) l.initial.index l.index (has (take l.task-index l.tasks))
