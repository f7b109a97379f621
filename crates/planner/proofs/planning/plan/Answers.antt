use Rattle.planner.proofs.PlanningLemmas.{fails_unplanned}
use Rattle.planner.proofs.planning.plan.Goals as goal

pub returns-clause-plan : goal.returns-clause-plan
returns-clause-plan c = fails_unplanned c.args.request.now c.args.documents.now c.args.limit c.in-Ok.survey c.in-Err-ordered_plan.fault c.in-Ok.ensures.answer c.in-Err-ordered_plan.ensures.plan

pub returns-in-Ok-ordered_plan-clause-means : goal.returns-in-Ok-ordered_plan-clause-means
returns-in-Ok-ordered_plan-clause-means c = record {
  survey = c.in-Ok.survey;
  says = c.in-Ok.ensures.answer;
  holds = c.plans_mean_the_workflow.ensures c.args.request.now c.in-Ok.survey c.args.limit c.in-Ok-ordered_plan.ordered.plan c.requires.sites c.requires.few c.in-Ok.ensures.well_formed
      c.in-Ok.ensures.answer.graph c.in-Ok-ordered_plan.ensures.plan.planned;
}
