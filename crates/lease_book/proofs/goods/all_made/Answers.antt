use Rattle.std.proofs.Common.{◌+◌, ap, arith, length}
use Rattle.storage_simulation.specs.Goods.{makes}
use Rattle.place_peaks.proofs.Offered.{made_so_far, total_more}
use Rattle.lease_book.proofs.goods.all_made.Goals as goal

pub overflow_add-sum : goal.overflow_add-sum
overflow_add-sum c =
    let few = made_so_far c.args.plan.now (c.loop-task.task + 1) c.requires.limits c.requires.laws (let end = ap length c.as_slice-task-end.ensures in omega (arith, c.requires.limits.tasks, end)) in
    let more = total_more (λ t. length (makes c.args.plan.now t)) c.loop-task.task in
    omega (arith, few, more, c.count_made-sum.ensures, c.loop-task.invariant)

pub returns-clause-few : goal.returns-clause-few
returns-clause-few c = let few = made_so_far c.args.plan.now c.loop-task.task c.requires.limits c.requires.laws (let end = ap length c.as_slice-task-end.ensures in omega (arith, c.requires.limits.tasks, end)) in omega (arith, few, c.loop-task.invariant)
