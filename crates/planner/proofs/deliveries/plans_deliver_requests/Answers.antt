use Rattle.planner.proofs.DeliveriesLemmas.{plan_delivers}
use Rattle.planner.proofs.deliveries.plans_deliver_requests.Goals as goal

pub returns : goal.returns
returns c = plan_delivers
