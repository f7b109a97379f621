use Rattle.std.proofs.Common.{◌≡◌, take}
use Rattle.ensemble.proofs.site_copies.directories_copied.Given as goal

abbrev pub invariant-loop-directory : goal.invariant-loop-directory
invariant-loop-directory l = l.copies.items ≡ take l.directory-index l.directories
