use Rattle.std.proofs.Common.{ap, ◌∙◌, length}
use Rattle.transfer_refiner.specs.code.View.{draft_of}
use Rattle.transfer_refiner.proofs.EdgesLemmas.{held_are, held_within}
use Rattle.transfer_refiner.proofs.edges.held.Goals as goal

pub from_edges-requires-clause-in_range : goal.from_edges-requires-clause-in_range
from_edges-requires-clause-in_range c = held_within (draft_of c.args.view.now) c.deref.result.now _ c.requires.draft (c.deref.ensures.value ∙ c.in_ok-edges.ensures) (ap length c.as_slice.ensures)

pub returns : goal.returns
returns c = λ a j. c.in_ok-graph.ensures.edges a j ∙ held_are (draft_of c.args.view.now) c.deref.result.now (c.deref.ensures.value ∙ c.in_ok-edges.ensures) a j
