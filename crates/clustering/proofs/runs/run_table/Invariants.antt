use Rattle.std.proofs.Common.{◌≡◌, ◌≤◌, drop, length}
use Rattle.std.specs.Prelude.{slice_index_or}
use Rattle.values.specs.declared.numbers.JobId.{JobId}
use Rattle.dependency_graph.specs.code.Graph.{job_lists}
use Rattle.clustering.specs.Runs.{run_among}
use Rattle.clustering.proofs.runs.run_table.Given as goal

abbrev pub invariant-loop-left : goal.invariant-loop-left
invariant-loop-left l = (l.left ≤ length l.groups) × (length l.runs.items ≡ l.jobs) × ((j : JobId) → slice_index_or l.runs.items j.0 0 ≡ run_among l.basis (drop l.left (job_lists l.groups)) j)

abbrev pub decreases-loop-left : goal.decreases-loop-left
decreases-loop-left l = l.left
