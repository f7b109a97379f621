use Rattle.transfer_refiner.proofs.TogetherLemmas.{cleans_counted}
use Rattle.transfer_refiner.proofs.law.cleans_are_counted.Goals as goal

pub returns : goal.returns
returns c = cleans_counted
