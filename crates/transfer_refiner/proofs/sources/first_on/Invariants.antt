use Rattle.std.proofs.Common.{◌≡◌, drop}
use Rattle.transfer_refiner.specs.Draft.{first_on, first_pfn}
use Rattle.transfer_refiner.proofs.sources.first_on.Given as goal

abbrev pub invariant-loop-i : goal.invariant-loop-i
invariant-loop-i l = first_on l.name (drop l.i l.pfns) (first_pfn l.pfns) ≡ first_on l.name l.pfns (first_pfn l.pfns)
