use Rattle.plan_run.specs.code.Moments.{member_moment, working}
use Rattle.pegasus_commands.specs.code.Moments.{with_first}
use Rattle.pegasus_commands.proofs.RehearseLemmas.{rehearse_works}
use Rattle.pegasus_commands.proofs.commands.rehearse.work.Goals as goal

pub returns-in-Ok-clause-does : goal.returns-in-Ok-clause-does
returns-in-Ok-clause-does g c = λ d m t same.
    let w = working g.T.Tool.apply g.T.Tool.known (with_first m (member_moment g.T.Tool g.G.Gate c.args.crew.now)) (with_first m (member_moment g.T.Tool g.G.Gate c.run_workload.new.crew)) in
    let told = c.run_workload.result in
    rehearse_works c.args.images d w t c.in-Ok.field-0.surveyed told.text.items told.answer c.in-Ok.ensures.ready.surveyed (c.run_workload.ensures.works m)
