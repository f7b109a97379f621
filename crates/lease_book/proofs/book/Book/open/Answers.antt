use Rattle.plan_core.specs.Words.{task_numbers}
use Rattle.lease_rules.proofs.SoundLemmas.{order_all}
use Rattle.lease_book.proofs.book.Book.open.Goals as goal

pub rest_of-requires-clause-order : goal.rest_of-requires-clause-order
rest_of-requires-clause-order c =
    let o = c.args.ordered.now in
    rw (c.plan-2.ensures, c.tasks-2.ensures.tasks) (order_all o.plan (task_numbers o.tasks.items) o.fits o.order)
