use Rattle.plan_core.specs.Words.{task_numbers}
use Rattle.plan_run.proofs.RunningLemmas.{complete_in, ends_by}
use Rattle.plan_run.proofs.running.end_of.Goals as goal

pub returns-in-Ok : goal.returns-in-Ok
returns-in-Ok g c =
    let y = c.args.yard.now in
    complete_in y.book y.ordered.value.plan y.ordered.value.tasks.items y.same_plan y.same_order c.in-Ok.ensures.done

pub returns-in-Err : goal.returns-in-Err
returns-in-Err g c =
    let y = c.args.yard.now in
    ends_by y.ordered.value.plan (task_numbers y.ordered.value.tasks.items) y.book.history.events c.in-Err.fault c.in-Err.ensures.ends
