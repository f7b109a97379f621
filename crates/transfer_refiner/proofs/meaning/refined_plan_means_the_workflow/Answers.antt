use Rattle.transfer_refiner.proofs.MeaningLemmas.{means}
use Rattle.transfer_refiner.proofs.meaning.refined_plan_means_the_workflow.Goals as goal

pub returns : goal.returns
returns c = means c.carried_is_carried_along.ensures.fits c.parents_write_what_is_read.ensures
