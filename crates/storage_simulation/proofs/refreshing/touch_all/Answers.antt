use Rattle.std.proofs.Common.{get_or}
use Rattle.storage_simulation.specs.code.Front.{front_of}
use Rattle.storage_simulation.specs.code.Ordering.{progress}
use Rattle.storage_simulation.proofs.FollowingLemmas.{at_place}
use Rattle.storage_simulation.proofs.RefreshingLemmas.{keyed_more, told_end, told_next}
use Rattle.storage_simulation.proofs.refreshing.touch_all.Goals as goal

pub touch-requires-clause-in_range : goal.touch-requires-clause-in_range
touch-requires-clause-in_range c = c.requires.in_range (get_or c.args.tasks.now c.loop-task.task-index 0) (at_place c.args.tasks.now c.loop-task.task-index c.loop-task-test.true)

pub loop-task-preserved : goal.loop-task-preserved
loop-task-preserved c = (
  c.touch.ensures.laid,
  keyed_more c.args.index.now c.loop-task.index c.touch.new.index c.loop-task.invariant.1 c.touch.ensures.keyed,
  told_next c.args.plan.now (progress c.args.standing.now) (front_of c.args.front.now) c.args.index.now c.loop-task.index c.touch.new.index c.args.tasks.now c.loop-task.task-index c.loop-task-test.true c.loop-task.invariant.2 c.touch.ensures.told,
)

pub returns-clause-told : goal.returns-clause-told
returns-clause-told c = told_end c.args.plan.now (progress c.args.standing.now) (front_of c.args.front.now) c.args.index.now c.loop-task.index c.args.tasks.now c.loop-task.task-index c.loop-task-test.false c.loop-task.invariant.2
