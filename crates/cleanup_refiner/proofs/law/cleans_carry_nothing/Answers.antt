use Rattle.cleanup_refiner.proofs.LawLemmas.{cleans_nothing}
use Rattle.cleanup_refiner.proofs.law.cleans_carry_nothing.Goals as goal

pub returns : goal.returns
returns c = cleans_nothing
