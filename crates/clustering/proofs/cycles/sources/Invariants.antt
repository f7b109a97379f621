use Rattle.std.proofs.Common.{◌≡◌, ◌++◌, drop}
use Rattle.digraph.specs.code.Adjacency.{lists_of}
use Rattle.dependency_graph.specs.code.Graph.{job_lists}
use Rattle.clustering.specs.code.Cycles.{sources_from}
use Rattle.clustering.proofs.cycles.sources.Given as goal

abbrev pub invariant-loop-part : goal.invariant-loop-part
invariant-loop-part l =
    (l.number ≡ l.part-index)
    × (lists_of l.lists.items ++ sources_from l.holders l.graph.parents l.number (drop l.part-index (job_lists l.parts)) ≡ sources_from l.holders l.graph.parents 0 (job_lists l.parts))
