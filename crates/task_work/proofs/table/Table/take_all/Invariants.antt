use Rattle.std.proofs.Common.{◌≡◌, ℕ, true, ◌++◌, drop, map, Some}
use Rattle.std.specs.Prelude.{is_some}
use Rattle.plan_core.specs.Numbers.{has}
use Rattle.plan_core.specs.Words.{file_numbers}
use Rattle.storage_simulation.specs.Following.{AreOnce}
use Rattle.task_work.specs.Table.{at}
use Rattle.task_work.proofs.table.Table.take_all.Given as goal

abbrev pub invariant-loop-file : goal.invariant-loop-file
invariant-loop-file l =
    (map (at l.fn.self) (file_numbers l.files) ≡ map Some l.blobs.items ++ map (at l.table) (file_numbers (drop l.file-index l.files)))
    × AreOnce (file_numbers (drop l.file-index l.files))
    × ((f : ℕ) → has (file_numbers (drop l.file-index l.files)) f ≡ true → is_some (at l.table f) ≡ true)
