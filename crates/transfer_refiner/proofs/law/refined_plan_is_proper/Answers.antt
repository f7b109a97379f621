use Rattle.transfer_refiner.proofs.ProperLemmas.{is_proper}
use Rattle.transfer_refiner.proofs.law.refined_plan_is_proper.Goals as goal

pub returns : goal.returns
returns c = is_proper
