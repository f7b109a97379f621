use Rattle.std.proofs.Common.{ap, ◌∙◌, refl}
use Rattle.std.specs.List.{list_any}
use Rattle.transfer_refiner.specs.code.View.{draft_of}
use Rattle.transfer_refiner.proofs.EdgesLemmas.{is_edge, stated_within}
use Rattle.transfer_refiner.proofs.edges.stated.Goals as goal

pub from_edges-requires-clause-in_range : goal.from_edges-requires-clause-in_range
from_edges-requires-clause-in_range c = stated_within (draft_of c.args.view.now) c.deref.result.now _ (λ u t. ap (list_any (is_edge u t)) c.deref.ensures.value ∙ c.in_ok-edges.ensures u t) refl

pub returns : goal.returns
returns c = λ u t. c.in_ok-graph.ensures.edges u t ∙ ap (list_any (is_edge u t)) c.deref.ensures.value ∙ c.in_ok-edges.ensures u t
