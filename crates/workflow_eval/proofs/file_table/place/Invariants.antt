use Rattle.std.proofs.Common.{◌≡◌, ◌≤◌, drop, take, length}
use Rattle.workflow_core.specs.WellFormed.{outputs_of}
use Rattle.workflow_eval.specs.FileTable.{placed}
use Rattle.workflow_eval.proofs.file_table.place.Given as goal

abbrev pub invariant-loop-at : goal.invariant-loop-at
invariant-loop-at l =
    (l.at ≤ length l.job.outputs)
    × (l.blobs.items ≡ take l.at l.initial.blobs.items)
    × (l.table.items ≡ placed (drop l.at (outputs_of l.job)) (drop l.at l.initial.blobs.items) l.initial.table.items)
    × (length l.table.items ≡ length l.initial.table.items)

abbrev pub decreases-loop-at : goal.decreases-loop-at
decreases-loop-at l = l.at
