use Rattle.dependency_graph.proofs.FlowLemmas.{flows}
use Rattle.dependency_graph.proofs.flow.values_flow_in_order.Goals as goal

pub returns : goal.returns
returns c = flows
