use Rattle.std.proofs.Common.{◌≡◌, map, take}
use Rattle.data_reuse.specs.Absent.{is_absent}
use Rattle.data_reuse.proofs.absent.absent_files.Given as goal

abbrev pub invariant-loop-file : goal.invariant-loop-file
invariant-loop-file l = l.absent.items ≡ map (is_absent l.catalog.entries l.force) (take l.file-index l.files)
