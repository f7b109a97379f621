use Rattle.plan_core.specs.Words.{task_numbers}
use Rattle.pegasus_commands.proofs.AuditLemmas.{prints_complete, prints_legal}
use Rattle.pegasus_commands.proofs.commands.stat.sums_text.Goals as goal

pub returns-in_ok-push_sums-in-Legal : goal.returns-in_ok-push_sums-in-Legal
returns-in_ok-push_sums-in-Legal c =
    let j = c.args.judged.now in
    prints_legal j.ordered.plan (task_numbers j.ordered.tasks.items) j.history.events j.verdict _ _ c.in-Legal.is c.in_ok-text.ensures c.in_ok-push_sums-in-Legal.ensures

pub returns-in_ok-push_sums-in-Complete : goal.returns-in_ok-push_sums-in-Complete
returns-in_ok-push_sums-in-Complete c =
    let j = c.args.judged.now in
    prints_complete j.ordered.plan (task_numbers j.ordered.tasks.items) j.history.events j.verdict _ _ c.in-Complete.is c.in_ok-text.ensures c.in_ok-push_sums-in-Complete.ensures
