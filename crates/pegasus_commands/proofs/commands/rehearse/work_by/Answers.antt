use Rattle.plan_run.specs.code.Moments.{counting, crew_moment, first_shown, working}
use Rattle.pegasus_commands.specs.code.Moments.{with_first}
use Rattle.pegasus_commands.proofs.RehearseLemmas.{rehearse_by_works}
use Rattle.pegasus_commands.proofs.commands.rehearse.work_by.Goals as goal

pub returns-in-Ok-clause-does : goal.returns-in-Ok-clause-does
returns-in-Ok-clause-does g c = λ d m.
    let before = crew_moment g.T.Tool g.G.Gate c.args.crew.now.items in
    let after = crew_moment g.T.Tool g.G.Gate c.run_workload_by.new.crew.items in
    let w = working g.T.Tool.apply g.T.Tool.known (with_first m (first_shown before)) (with_first m (first_shown after)) in
    let told = c.run_workload_by.result in
    rehearse_by_works c.args.images c.args.workers d w (counting before after) c.in-Ok.field-0.surveyed told.text.items told.answer c.in-Ok.ensures.ready.surveyed (c.run_workload_by.ensures.works m)
