use Rattle.std.proofs.Common.{◌≡◌, []}
use Rattle.std.specs.Vec.Iter.{into_iter_items}
use Rattle.replica_catalog.specs.Lookup.{lfns_of}
use Rattle.replica_catalog.specs.code.Merged.{with_entries}
use Rattle.replica_catalog.proofs.joining.merged_entries.Given as goal

abbrev pub invariant-loop-entry : goal.invariant-loop-entry
invariant-loop-entry l =
    (l.lfns.keys ≡ lfns_of l.merged.items)
    × (with_entries l.merged.items (into_iter_items l.entry-iterator) ≡ with_entries [] l.fn.entries.items)
