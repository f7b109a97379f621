use Rattle.std.proofs.Common.{◌≡◌, ◌≤◌, drop, length}
use Rattle.values.specs.declared.numbers.JobId.{JobId}
use Rattle.dependency_graph.specs.code.Graph.{job_lists}
use Rattle.clustering.specs.code.Labels.{holder_from, holder_in}
use Rattle.clustering.proofs.labels.holder_table.Given as goal

abbrev pub invariant-loop-left : goal.invariant-loop-left
invariant-loop-left l = (l.left ≤ length l.parts) × (length l.holders.items ≡ l.jobs) × ((j : JobId) → holder_in l.holders.items j ≡ holder_from l.left (drop l.left (job_lists l.parts)) j)

abbrev pub decreases-loop-left : goal.decreases-loop-left
decreases-loop-left l = l.left
