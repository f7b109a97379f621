use Rattle.plan_core.specs.Words.{task_numbers}
use Rattle.pegasus_commands.specs.code.Commands.Audit.{PrintsVerdict}
use Rattle.pegasus_commands.proofs.AuditLemmas.{says_none}
use Rattle.pegasus_commands.proofs.commands.audit.judged_text.Goals as goal

pub returns-in-Err : goal.returns-in-Err
returns-in-Err c = says_none PrintsVerdict c.args.recorded.now c.in-Err.fault _ _ c.in-Err.ensures.fault c.at_once.ensures.text c.at_once.ensures.answer

pub returns-in-Ok-verdict_text : goal.returns-in-Ok-verdict_text
returns-in-Ok-verdict_text c =
    let j = c.in-Ok.judged in
    record { plan = j.ordered.plan; order = task_numbers j.ordered.tasks.items; history = j.history.events; verdict = j.verdict; judgment = c.in-Ok.ensures.judgment; holds = c.in-Ok-verdict_text.ensures }
