use Rattle.std.proofs.Common.{◌≡◌, ◌++◌, drop}
use Rattle.plan_core.specs.Words.{file_numbers, pair_numbers}
use Rattle.task_work.specs.Computing.{files_of}
use Rattle.task_work.proofs.computing.pair_files.Given as goal

abbrev pub invariant-loop-pair : goal.invariant-loop-pair
invariant-loop-pair l = file_numbers l.files.items ++ files_of l.plan (pair_numbers (drop l.pair-index l.pairs)) ≡ files_of l.plan (pair_numbers l.pairs)
