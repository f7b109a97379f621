use Rattle.plan_core.specs.Words.{task_numbers}
use Rattle.pegasus_commands.proofs.AuditLemmas.{adds_so}
use Rattle.pegasus_commands.proofs.commands.stat.push_sums.Goals as goal

pub returns : goal.returns
returns c =
    let j = c.args.judged.now in
    adds_so c.push_statistics.result j.ordered.plan (task_numbers j.ordered.tasks.items) j.history.events c.in_ok-sums.sums _ _ c.in_ok-sums.ensures c.push_statistics.ensures
