use Rattle.std.proofs.Common.{◌≡◌, take}
use Rattle.plan_core.proofs.copying.files_copied.Given as goal

abbrev pub invariant-loop-file : goal.invariant-loop-file
invariant-loop-file l = l.copies.items ≡ take l.file-index l.files
