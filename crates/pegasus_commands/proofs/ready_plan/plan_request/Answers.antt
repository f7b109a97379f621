use Rattle.pegasus_commands.specs.code.Commands.Plan.{task_limit}
use Rattle.pegasus_commands.proofs.PlanRunLemmas.{few_retries}
use Rattle.pegasus_commands.proofs.ready_plan.plan_request.Goals as goal

pub returns-in-Ok-clause-retries : goal.returns-in-Ok-clause-retries
returns-in-Ok-clause-retries c =
    let s = c.args.surveyed.now in
    few_retries c.in-Ok.ordered.plan s.request.policy (c.plans_deliver_requests.ensures s.request s.survey task_limit c.in-Ok.ordered.plan c.in-Ok.ensures.planned).policy s.limits.policy

pub returns-in-Ok-clause-policy : goal.returns-in-Ok-clause-policy
returns-in-Ok-clause-policy c =
    let s = c.args.surveyed.now in
    (c.plans_deliver_requests.ensures s.request s.survey task_limit c.in-Ok.ordered.plan c.in-Ok.ensures.planned).policy
