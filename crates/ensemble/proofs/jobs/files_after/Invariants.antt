use Rattle.std.proofs.Common.{◌≡◌, ◌++◌, drop, map}
use Rattle.ensemble.specs.Jobs.{file_after}
use Rattle.ensemble.proofs.jobs.files_after.Given as goal

abbrev pub invariant-loop-file : goal.invariant-loop-file
invariant-loop-file l = l.later.items ++ map (file_after l.first) (drop l.file-index l.files) ≡ map (file_after l.first) l.files
