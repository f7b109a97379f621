use Rattle.std.proofs.Common.{◌≡◌, take}
use Rattle.site_selector.specs.code.Offers.{flags_in, offer_table}
use Rattle.site_selector.proofs.offers.offer_table.Given as goal

abbrev pub invariant-loop-entry : goal.invariant-loop-entry
invariant-loop-entry l = flags_in l.table.items ≡ offer_table l.names (take l.entry-index l.entries)
