use Rattle.std.proofs.Common.{◌≡◌, drop, map}
use Rattle.values.specs.Apply.{all_of}
use Rattle.plan_core.specs.Words.{file_numbers}
use Rattle.task_work.specs.Table.{at}
use Rattle.task_work.proofs.TableLemmas.{with_front}
use Rattle.task_work.proofs.table.Table.copies.Given as goal

abbrev pub invariant-loop-file : goal.invariant-loop-file
invariant-loop-file l = with_front l.blobs.items (all_of (map (at l.self) (file_numbers (drop l.file-index l.files)))) ≡ all_of (map (at l.self) (file_numbers l.files))
