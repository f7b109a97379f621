use Rattle.storage_simulation.proofs.FewLemmas.{pairs_are_few}
use Rattle.storage_simulation.proofs.law.pairs_are_few.Goals as goal

pub returns : goal.returns
returns c = pairs_are_few
