use Rattle.std.proofs.Common.{get_or}
use Rattle.storage_simulation.specs.code.Front.{front_of}
use Rattle.storage_simulation.specs.code.Ordering.{progress}
use Rattle.storage_simulation.proofs.FollowingLemmas.{at_place}
use Rattle.storage_simulation.proofs.RefreshingLemmas.{bests_end, bests_next, settled_more}
use Rattle.storage_simulation.proofs.refreshing.settle_all.Goals as goal

pub settle-requires-clause-in_range : goal.settle-requires-clause-in_range
settle-requires-clause-in_range c = c.requires.in_range (get_or c.args.tasks.now c.loop-task.task-index 0) (at_place c.args.tasks.now c.loop-task.task-index c.loop-task-test.true)

pub loop-task-preserved : goal.loop-task-preserved
loop-task-preserved c = (
  c.settle.ensures.laid,
  settled_more c.args.index.now c.loop-task.index c.settle.new.index c.loop-task.invariant.1 c.settle.ensures.settled,
  bests_next c.args.plan.now (progress c.args.standing.now) (front_of c.args.front.now) c.args.index.now c.loop-task.index c.settle.new.index c.args.tasks.now c.loop-task.task-index c.loop-task-test.true c.loop-task.invariant.2 c.settle.ensures.bests,
)

pub returns-clause-bests : goal.returns-clause-bests
returns-clause-bests c = bests_end c.args.plan.now (progress c.args.standing.now) (front_of c.args.front.now) c.args.index.now c.loop-task.index c.args.tasks.now c.loop-task.task-index c.loop-task-test.false c.loop-task.invariant.2
