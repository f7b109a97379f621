use Rattle.storage_simulation.proofs.ChangeLemmas.{usage_small}
use Rattle.storage_simulation.proofs.law.sums_are_small.Goals as goal

pub returns : goal.returns
returns c = usage_small
