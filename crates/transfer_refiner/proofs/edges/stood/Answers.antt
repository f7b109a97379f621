use Rattle.std.proofs.Common.{ap, ◌∙◌, length, arith}
use Rattle.transfer_refiner.specs.code.View.{draft_of}
use Rattle.transfer_refiner.proofs.EdgesLemmas.{stood_are, stood_within}
use Rattle.transfer_refiner.proofs.edges.stood.Goals as goal

pub from_edges-requires-clause-in_range : goal.from_edges-requires-clause-in_range
from_edges-requires-clause-in_range c = stood_within (draft_of c.args.view.now) c.deref.result.now _ c.requires.draft (c.deref.ensures.value ∙ c.in_ok-edges.ensures) (omega (arith, c.larger-nodes.ensures.one, ap length c.as_slice-files.ensures)) (omega (arith, c.larger-nodes.ensures.two, ap length c.as_slice-sites.ensures))

pub returns : goal.returns
returns c = λ a j. c.in_ok-graph.ensures.edges a j ∙ stood_are (draft_of c.args.view.now) c.deref.result.now (c.deref.ensures.value ∙ c.in_ok-edges.ensures) a j
