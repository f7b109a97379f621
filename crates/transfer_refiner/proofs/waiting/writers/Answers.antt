use Rattle.std.proofs.Common.{◌∙◌}
use Rattle.transfer_refiner.proofs.WritersLemmas.{writers_are, writers_within}
use Rattle.transfer_refiner.proofs.waiting.writers.Goals as goal

pub from_edges-requires-clause-in_range : goal.from_edges-requires-clause-in_range
from_edges-requires-clause-in_range c = writers_within c.args.tasks.now c.deref.result.now _ c.args.pairs (c.deref.ensures.value ∙ c.in_ok-edges.ensures) c.requires.in_range c.larger-nodes.ensures.one c.larger-nodes.ensures.two

pub returns : goal.returns
returns c = λ t q. c.in_ok-graph.ensures.edges t q ∙ writers_are c.args.tasks.now c.deref.result.now (c.deref.ensures.value ∙ c.in_ok-edges.ensures) t q
