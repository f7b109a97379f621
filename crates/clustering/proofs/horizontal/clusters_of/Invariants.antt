use Rattle.std.proofs.Common.{◌≡◌, ◌++◌}
use Rattle.std.specs.Vec.Iter.{into_iter_items}
use Rattle.dependency_graph.specs.code.Graph.{job_lists}
use Rattle.clustering.proofs.horizontal.clusters_of.Given as goal

abbrev pub invariant-loop-part : goal.invariant-loop-part
invariant-loop-part l = l.clusters.items ++ job_lists (into_iter_items l.part-iterator) ≡ job_lists l.fn.parts.items
