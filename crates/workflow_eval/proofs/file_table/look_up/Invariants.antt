use Rattle.std.proofs.Common.{◌≡◌, drop, map}
use Rattle.values.specs.declared.numbers.FileId.{FileId}
use Rattle.workflow_core.specs.WellFormed.{inputs_of}
use Rattle.workflow_eval.specs.FileTable.{looked_up}
use Rattle.workflow_eval.proofs.FileTableLemmas.{with_front}
use Rattle.workflow_eval.proofs.file_table.look_up.Given as goal

abbrev pub invariant-loop-file : goal.invariant-loop-file
invariant-loop-file l = with_front l.blobs.items (looked_up l.table (map (λ (f : FileId). f.0) (drop l.file-index l.file-items))) ≡ looked_up l.table (inputs_of l.job)
