use Rattle.std.proofs.Common.{take}
use Rattle.plan_core.specs.Words.{task_numbers}
use Rattle.resume_run.specs.Replaying.{HasFollowed, without_fails}
use Rattle.resume_run.proofs.replaying.followed.Given as goal

abbrev pub invariant-loop-k : goal.invariant-loop-k
invariant-loop-k l = HasFollowed l.ordered.plan (task_numbers l.ordered.tasks.items) (without_fails (take l.k l.history.events)) l.book
