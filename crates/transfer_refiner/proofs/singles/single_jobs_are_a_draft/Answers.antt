use Rattle.transfer_refiner.proofs.SinglesLemmas.{single_jobs}
use Rattle.transfer_refiner.proofs.singles.single_jobs_are_a_draft.Goals as goal

pub returns : goal.returns
returns c = single_jobs
