use Rattle.std.proofs.Common.{◌≡◌, drop}
use Rattle.plan_core.specs.code.Tasks.{have_sizes}
use Rattle.plan_core.specs.Words.{file_numbers}
use Rattle.plan_core.proofs.tasks.have_sizes.Given as goal

abbrev pub invariant-loop-file : goal.invariant-loop-file
invariant-loop-file l = have_sizes l.plan (file_numbers (drop l.file-index l.files)) ≡ have_sizes l.plan (file_numbers l.files)
