use Rattle.dependency_graph.proofs.BuiltLemmas.{answer_none}
use Rattle.dependency_graph.proofs.built.cycle_fault.Goals as goal

pub unreachable-requires : goal.unreachable-requires
unreachable-requires c = answer_none c.in_ok-nodes.field-0 _ _ c.in-None.is c.in_ok-nodes.ensures.cycle c.requires.returns.0 c.requires.returns.1
