use Rattle.dependency_graph.proofs.EdgesLemmas.{no_producer, first_producer}
use Rattle.dependency_graph.proofs.edges.producer_is_the_first_maker.Goals as goal

pub returns : goal.returns
returns c = record { none = no_producer; some = first_producer }
