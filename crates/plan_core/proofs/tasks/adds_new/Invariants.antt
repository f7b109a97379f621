use Rattle.std.proofs.Common.{◌≡◌, ◌++◌, drop}
use Rattle.plan_core.specs.code.Tasks.{are_fresh}
use Rattle.plan_core.specs.Words.{file_numbers}
use Rattle.plan_core.proofs.tasks.adds_new.Given as goal

abbrev pub invariant-loop-file : goal.invariant-loop-file
invariant-loop-file l = (are_fresh l.known.keys (file_numbers (drop l.file-index l.files)) ≡ are_fresh l.fn.known.keys (file_numbers l.files)) × (l.known.keys ++ file_numbers (drop l.file-index l.files) ≡ l.fn.known.keys ++ file_numbers l.files)
