use Rattle.planner.proofs.surveyed.survey_request.Goals as goal

pub invariant_of-result : goal.invariant_of-result
invariant_of-result c =
    let s = c.in-Ok.survey in
    let answer = c.in-Ok.ensures.answer in
    record {
      well_formed = c.in-Ok.ensures.well_formed;
      graph = answer.graph;
      sites = c.requires.sites;
      limits = c.requires.limits;
      means = λ limit p few planned. c.plans_mean_the_workflow.ensures c.args.request s limit p c.requires.sites few c.in-Ok.ensures.well_formed answer.graph planned;
    }
