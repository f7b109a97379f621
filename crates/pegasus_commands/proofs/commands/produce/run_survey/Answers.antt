use Rattle.std.proofs.Common.{inl, refl, arith}
use Rattle.plan_core.specs.Words.{task_numbers}
use Rattle.plan_run.specs.code.Moments.{first_tool, member_moment, work_moment, working}
use Rattle.plan_run.specs.code.Running.{reporting}
use Rattle.pegasus_commands.specs.declared.fault.CallFault.TheVariants.{Memory}
use Rattle.pegasus_commands.specs.code.Commands.Plan.{task_limit}
use Rattle.pegasus_commands.proofs.PlanRunLemmas.{HasDeliveryLaws, unrun_is}
use Rattle.pegasus_commands.proofs.ProduceLemmas.{HasWriterLaws, can_write, produce_is}
use Rattle.pegasus_commands.proofs.commands.produce.run_survey.Goals as goal

pub tell_run-worked-requires : goal.tell_run-worked-requires
tell_run-worked-requires g c =
    let s = c.args.surveyed in
    let o = c.in-Ok.ordered in
    let p = o.plan in
    let order = task_numbers o.tasks.items in
    let ready = c.in-Ok.ensures.readies in
    let fits = c.ordered_plans_fit.ensures o in
    let ran = c.run_plan.result in
    let before = work_moment g.H.Host c.args.host (member_moment g.T.Tool g.G.Gate c.args.crew.now) in
    let after = work_moment g.H.Host ran.host (member_moment g.T.Tool g.G.Gate c.run_plan.new.crew) in
    let w = working g.T.Tool.apply g.T.Tool.known before after in
    let x = reporting ran.history ran.text.items ran.delivered.items in
    let laws : HasDeliveryLaws p order = record {
      complete = λ r legal complete t f d. c.complete_records_deliver.ensures.complete p order r ready.proper fits legal complete t f d;
      only = λ r f h. c.complete_records_deliver.ensures.only p r f h;
    } in
    let writes : HasWriterLaws s.survey p order = record {
      runs = λ r ds. c.deliveries_can_be_written.ensures p order r ds;
      says = λ ds. c.written_files_keep_nothing.ensures.says s.survey.workflow p ds;
      held = λ ds. c.written_files_keep_nothing.ensures.held s.survey.workflow p ds;
    } in
    rw (c.in-Ok-copy.ensures, c.plan.ensures) (can_write w s p order x ran.end laws writes ready.proper fits c.requires.named
    (c.plans_deliver_requests.ensures s.request s.survey task_limit p ready.planned) c.run_plan.ensures.ran)

pub returns-in-Ok-copy-clause-works : goal.returns-in-Ok-copy-clause-works
returns-in-Ok-copy-clause-works g c =
    let s = c.args.surveyed in
    let o = c.in-Ok.ordered in
    let p = o.plan in
    let order = task_numbers o.tasks.items in
    let ready = c.in-Ok.ensures.readies in
    let fits = c.ordered_plans_fit.ensures o in
    let ran = c.run_plan.result in
    let before = work_moment g.H.Host c.args.host (member_moment g.T.Tool g.G.Gate c.args.crew.now) in
    let after = work_moment g.H.Host ran.host (member_moment g.T.Tool g.G.Gate c.run_plan.new.crew) in
    let w = working g.T.Tool.apply g.T.Tool.known before after in
    let told = c.tell_run-worked.result.told in
    let x = reporting ran.history ran.text.items ran.delivered.items in
    let laws : HasDeliveryLaws p order = record {
      complete = λ r legal complete t f d. c.complete_records_deliver.ensures.complete p order r ready.proper fits legal complete t f d;
      only = λ r f h. c.complete_records_deliver.ensures.only p r f h;
    } in
    let writes : HasWriterLaws s.survey p order = record {
      runs = λ r ds. c.deliveries_can_be_written.ensures p order r ds;
      says = λ ds. c.written_files_keep_nothing.ensures.says s.survey.workflow p ds;
      held = λ ds. c.written_files_keep_nothing.ensures.held s.survey.workflow p ds;
    } in
    λ t. rw c.tell_run-worked.ensures.host (produce_is w t s p o.tasks.items x ran.end told.text.items told.answer ready laws writes fits
    (c.plans_deliver_requests.ensures s.request s.survey task_limit p ready.planned)
    (s.means task_limit p (omega arith) ready.planned)
    c.run_plan.ensures.ran (rw (c.in-Ok-copy.ensures, c.plan.ensures) at c.tell_run-worked.ensures.tells))

pub returns-in-Err-copy-clause-works : goal.returns-in-Err-copy-clause-works
returns-in-Err-copy-clause-works g c =
    let first = member_moment g.T.Tool g.G.Gate c.args.crew.now in
    let moment = work_moment g.H.Host c.args.host first in
    let w = working g.T.Tool.apply g.T.Tool.known moment moment in
    λ t. rw c.unrun-in-Err-copy.ensures.host (inl (unrun_is w (first_tool w) c.args.surveyed _ _ Memory tt c.unrun-in-Err-copy.ensures.answer refl refl c.unrun-in-Err-copy.ensures.text))

pub returns-in-Err-clause-works : goal.returns-in-Err-clause-works
returns-in-Err-clause-works g c =
    let first = member_moment g.T.Tool g.G.Gate c.args.crew.now in
    let moment = work_moment g.H.Host c.args.host first in
    let w = working g.T.Tool.apply g.T.Tool.known moment moment in
    λ t. rw c.unrun.ensures.host (inl (unrun_is w (first_tool w) c.args.surveyed _ _ c.in-Err.fault c.in-Err.ensures.readies c.unrun.ensures.answer refl refl c.unrun.ensures.text))
