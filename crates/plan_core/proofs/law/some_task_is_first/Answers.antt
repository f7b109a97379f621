use Rattle.plan_core.proofs.LawLemmas.{first_task}
use Rattle.plan_core.proofs.law.some_task_is_first.Goals as goal

pub returns : goal.returns
returns c = first_task
