use Rattle.std.proofs.Common.{◌≡◌, map, take}
use Rattle.digraph.specs.code.Adjacency.{lists_of}
use Rattle.dependency_graph.specs.Graph.{numbers}
use Rattle.dependency_graph.specs.code.Graph.{job_lists}
use Rattle.dependency_graph.proofs.graph.job_lists.Given as goal

abbrev pub invariant-loop-list : goal.invariant-loop-list
invariant-loop-list l = map numbers (job_lists l.jobs.items) ≡ lists_of (take l.list-index l.lists)
