use Rattle.std.proofs.Common.{◌≡◌}
use Rattle.std.specs.Vec.Iter.{into_iter_items}
use Rattle.values.specs.Apply.{all_of}
use Rattle.workflow_eval.proofs.FileTableLemmas.{with_front}
use Rattle.workflow_eval.proofs.file_table.take_out.Given as goal

abbrev pub invariant-loop-place : goal.invariant-loop-place
invariant-loop-place l = with_front l.blobs.items (all_of (into_iter_items l.place-iterator)) ≡ all_of l.fn.table.items
