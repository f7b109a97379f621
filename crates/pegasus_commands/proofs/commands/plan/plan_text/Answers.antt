use Rattle.pegasus_commands.proofs.PlanLemmas.{says_refused}
use Rattle.pegasus_commands.proofs.commands.plan.plan_text.Goals as goal

pub returns-in-Err : goal.returns-in-Err
returns-in-Err c = says_refused c.args.surveyed c.in-Err.fault _ _ c.in-Err.ensures c.at_once.ensures.text (rw c.of_plan_fault.ensures at c.at_once.ensures.answer)
