use Rattle.std.proofs.Common.{◌≡◌, take}
use Rattle.ensemble.proofs.entries.pfns_copied.Given as goal

abbrev pub invariant-loop-pfn : goal.invariant-loop-pfn
invariant-loop-pfn l = l.copies.items ≡ take l.pfn-index l.pfns
