use Rattle.std.proofs.Common.{inl, refl, arith}
use Rattle.plan_core.specs.Words.{task_numbers}
use Rattle.plan_run.specs.code.Moments.{counting, crew_moment, first_shown, work_moment, working}
use Rattle.pegasus_commands.specs.code.Commands.Plan.{task_limit}
use Rattle.pegasus_commands.proofs.PlanRunLemmas.{unrun_is}
use Rattle.pegasus_commands.proofs.RunLemmas.{many_is}
use Rattle.pegasus_commands.proofs.commands.run.run_survey.Goals as goal

pub returns-in-Ok-clause-works : goal.returns-in-Ok-clause-works
returns-in-Ok-clause-works g c =
    let s = c.args.surveyed in
    let o = c.in-Ok.ordered in
    let p = o.plan in
    let order = task_numbers o.tasks.items in
    let ready = c.in-Ok.ensures.readies in
    let fits = c.ordered_plans_fit.ensures o in
    let ran = c.run_plan_by.result in
    let old = crew_moment g.T.Tool g.G.Gate c.args.crew.now.items in
    let new = crew_moment g.T.Tool g.G.Gate c.run_plan_by.new.crew.items in
    let before = work_moment g.H.Host c.args.host (first_shown old) in
    let after = work_moment g.H.Host ran.host (first_shown new) in
    let w = working g.T.Tool.apply g.T.Tool.known before after in
    rw (c.ended.ensures.answer, c.ended.ensures.text, c.ended.ensures.host) (many_is w (counting old new) c.args.workers s p o.tasks.items ran.history ran.text.items ran.delivered.items ran.end ready
    (record {
      complete = λ r legal complete t f d. c.complete_records_deliver.ensures.complete p order r ready.proper fits legal complete t f d;
      only = λ r f h. c.complete_records_deliver.ensures.only p r f h;
    })
    (c.plans_deliver_requests.ensures s.request s.survey task_limit p ready.planned)
    (s.means task_limit p (omega arith) ready.planned)
    c.run_plan_by.ensures.ran)

pub returns-in-Err-clause-works : goal.returns-in-Err-clause-works
returns-in-Err-clause-works g c =
    let old = crew_moment g.T.Tool g.G.Gate c.args.crew.now.items in
    let moment = work_moment g.H.Host c.args.host (first_shown old) in
    let w = working g.T.Tool.apply g.T.Tool.known moment moment in
    rw c.unrun.ensures.host (inl (unrun_is w (counting old old) c.args.surveyed _ _ c.in-Err.fault c.in-Err.ensures.readies c.unrun.ensures.answer refl refl c.unrun.ensures.text))
