use Rattle.std.proofs.Common.{◌∙◌, ap}
use Rattle.plan_request.specs.declared.request.PlanRequest.{PlanRequest}
use Rattle.plan_request.specs.Request.{execute_checked}
use Rattle.ensemble.proofs.joining.join.Goals as goal

pub invariant_of-result : goal.invariant_of-result
invariant_of-result c =
    let sites = ap (λ (q : PlanRequest). execute_checked q.execute) c.in_ok-request.ensures.joint ∙ c.requires.sites in
    record {
      well_formed = c.in_ok-survey.ensures.well_formed;
      graph = c.in_ok-survey.ensures.joint.graph;
      sites = sites;
      limits = c.in_ok-request.ensures.limits;
      means = λ limit p most is. c.plans_mean_the_workflow.ensures c.in_ok-request.request c.in_ok-survey.survey limit p sites most c.in_ok-survey.ensures.well_formed c.in_ok-survey.ensures.joint.graph is;
    }
