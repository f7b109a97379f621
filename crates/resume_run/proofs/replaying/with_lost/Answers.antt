use Rattle.plan_core.specs.Words.{task_numbers}
use Rattle.resume_run.proofs.ReplayingLemmas.{follows_few}
use Rattle.resume_run.proofs.replaying.with_lost.Goals as goal

pub lost_tasks-requires : goal.lost_tasks-requires
lost_tasks-requires c = follows_few c.args.ordered.now.plan (task_numbers c.args.ordered.now.tasks.items) c.args.history.now.events c.in_ok-book.book c.requires.legal c.in_ok-book.ensures
