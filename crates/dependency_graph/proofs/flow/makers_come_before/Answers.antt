use Rattle.dependency_graph.proofs.FlowLemmas.{makers_first}
use Rattle.dependency_graph.proofs.flow.makers_come_before.Goals as goal

pub returns : goal.returns
returns c = makers_first
