use Rattle.std.proofs.Common.{refl, arith}
use Rattle.plan_core.specs.Words.{task_numbers}
use Rattle.plan_run.specs.code.Moments.{counting, crew_moment, first_shown, work_moment, working}
use Rattle.pegasus_commands.specs.code.Commands.Plan.{task_limit}
use Rattle.pegasus_commands.proofs.ResumeLemmas.{resumes_so, unread_with, unready_with, unresumed}
use Rattle.pegasus_commands.proofs.commands.resume.resume_recorded.Goals as goal

pub returns-in-Ok-history-clause-works : goal.returns-in-Ok-history-clause-works
returns-in-Ok-history-clause-works g c =
    let i = c.args.recorded in
    let s = i.surveyed in
    let o = c.in-Ok.ordered in
    let p = o.plan in
    let order = task_numbers o.tasks.items in
    let ready = c.in-Ok.ensures.readies in
    let fits = c.ordered_plans_fit.ensures o in
    let given = c.in-Ok-history.history.events in
    let resumed = c.resume_plan-resumed.result in
    let old = crew_moment g.T.Tool g.G.Gate c.args.crew.now.items in
    let new = crew_moment g.T.Tool g.G.Gate c.resume_plan-resumed.new.crew.items in
    let before = work_moment g.H.Host c.args.host (first_shown old) in
    let after = work_moment g.H.Host resumed.host (first_shown new) in
    let w = working g.T.Tool.apply g.T.Tool.known before after in
    rw (c.ended.ensures.answer, c.ended.ensures.text, c.ended.ensures.host) (resumes_so w (counting old new) i p o.tasks.items given resumed.text.items resumed.end
    (record { ready = ready; is_record = c.in-Ok-history.ensures.is })
    (record {
      complete = λ r legal complete t f d. c.complete_records_deliver.ensures.complete p order r ready.proper fits legal complete t f d;
      only = λ r f h. c.complete_records_deliver.ensures.only p r f h;
    })
    (c.plans_deliver_requests.ensures s.request s.survey task_limit p ready.planned)
    (s.means task_limit p (omega arith) ready.planned)
    c.resume_plan-resumed.ensures.resumes)

pub returns-in-Err-clause-works : goal.returns-in-Err-clause-works
returns-in-Err-clause-works g c =
    let old = crew_moment g.T.Tool g.G.Gate c.args.crew.now.items in
    let moment = work_moment g.H.Host c.args.host (first_shown old) in
    let w = working g.T.Tool.apply g.T.Tool.known moment moment in
    let i = c.args.recorded in
    rw c.unrun.ensures.host (unresumed w (counting old old) i _ _ c.in-Err.fault (unready_with w.known i c.in-Err.fault c.in-Err.ensures.readies) c.unrun.ensures.answer refl refl c.unrun.ensures.text)

pub returns-in-Err-history-clause-works : goal.returns-in-Err-history-clause-works
returns-in-Err-history-clause-works g c =
    let old = crew_moment g.T.Tool g.G.Gate c.args.crew.now.items in
    let moment = work_moment g.H.Host c.args.host (first_shown old) in
    let w = working g.T.Tool.apply g.T.Tool.known moment moment in
    let i = c.args.recorded in
    let o = c.in-Ok.ordered in
    let fault = c.in-Err-history.fault in
    rw c.unrun-in-Err-history.ensures.host (unresumed w (counting old old) i _ _ fault (unread_with w.known i o.plan o.tasks.items fault c.in-Ok.ensures.readies c.in-Err-history.ensures.fault) c.unrun-in-Err-history.ensures.answer refl refl c.unrun-in-Err-history.ensures.text)
