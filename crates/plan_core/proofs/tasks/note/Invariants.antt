use Rattle.std.proofs.Common.{◌≡◌, drop}
use Rattle.plan_core.specs.code.Tasks.{with_all}
use Rattle.plan_core.specs.Words.{file_numbers}
use Rattle.plan_core.proofs.tasks.note.Given as goal

abbrev pub invariant-loop-file : goal.invariant-loop-file
invariant-loop-file l = with_all l.known.keys (file_numbers (drop l.file-index l.files)) ≡ with_all l.fn.known.keys (file_numbers l.files)
