use Rattle.dependency_graph.proofs.ValueLemmas.{fits, alone}
use Rattle.dependency_graph.proofs.value.value_is_determined.Goals as goal

pub returns : goal.returns
returns c = record { fits = fits; alone = alone }
