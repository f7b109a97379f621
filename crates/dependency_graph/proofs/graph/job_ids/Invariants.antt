use Rattle.std.proofs.Common.{◌≡◌, take}
use Rattle.dependency_graph.specs.Graph.{numbers}
use Rattle.dependency_graph.proofs.graph.job_ids.Given as goal

abbrev pub invariant-loop-node : goal.invariant-loop-node
invariant-loop-node l = numbers l.ids.items ≡ take l.node-index l.nodes
