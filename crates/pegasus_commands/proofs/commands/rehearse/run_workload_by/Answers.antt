use Rattle.std.proofs.Common.{arith}
use Rattle.plan_core.specs.Words.{task_numbers}
use Rattle.plan_run.specs.code.Moments.{counting, crew_moment, first_shown}
use Rattle.pegasus_commands.specs.code.Commands.Plan.{task_limit}
use Rattle.pegasus_commands.proofs.PlanRunLemmas.{HasDeliveryLaws}
use Rattle.pegasus_commands.proofs.RehearseLemmas.{many_is}
use Rattle.pegasus_commands.proofs.commands.rehearse.run_workload_by.Goals as goal

pub returns-clause-works : goal.returns-clause-works
returns-clause-works g c = λ m.
    let s = c.args.surveyed in
    let o = c.in-Ok.ordered in
    let fits = c.ordered_plans_fit.ensures o in
    let ran = c.run_plan_by-ran.result in
    let ready = c.in-Ok.ensures.readies in
    let before = crew_moment g.T.Tool g.G.Gate c.args.crew.now.items in
    let after = crew_moment g.T.Tool g.G.Gate c.run_plan_by-ran.new.crew.items in
    let laws : HasDeliveryLaws o.plan (task_numbers o.tasks.items) = record {
      complete = λ r legal done. c.complete_records_deliver.ensures.complete o.plan (task_numbers o.tasks.items) r o.proper fits legal done;
      only = λ r f is. c.complete_records_deliver.ensures.only o.plan r f is;
    } in
    let requests = c.plans_deliver_requests.ensures s.request s.survey task_limit o.plan ready.planned in
    let means = s.means task_limit o.plan (omega arith) ready.planned in
    many_is c.args.images c.args.workers m (counting before after) g.T.Tool.apply g.T.Tool.known (first_shown before) (first_shown after) s c.args.host ran.host o.plan o.tasks.items ran.history ran.text.items ran.delivered.items c.in-Some.figures
    c.tell_end.result.text.items c.tell_end.result.answer ran.end c.requires.prepared ready laws requests means c.run_plan_by-ran.ensures.ran c.in-Some.ensures c.tell_end.ensures
