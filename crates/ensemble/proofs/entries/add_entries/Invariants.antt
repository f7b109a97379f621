use Rattle.std.proofs.Common.{◌≡◌, ◌++◌, drop, map}
use Rattle.ensemble.specs.Entries.{entry_of}
use Rattle.ensemble.proofs.entries.add_entries.Given as goal

abbrev pub invariant-loop-entry : goal.invariant-loop-entry
invariant-loop-entry l = l.entries.items ++ map (entry_of l.member) (drop l.entry-index l.more) ≡ l.fn.entries.items ++ map (entry_of l.member) l.more
