use Rattle.std.proofs.Common.{◌≡◌, ◌++◌, drop}
use Rattle.ensemble.specs.Catalogues.{joint_entries}
use Rattle.ensemble.proofs.catalogues.entries_of.Given as goal

abbrev pub invariant-loop-member : goal.invariant-loop-member
invariant-loop-member l = l.entries.items ++ joint_entries (drop l.member-index l.members) ≡ joint_entries l.members
