use Rattle.std.proofs.Common.{◌≡◌, ◌++◌, drop}
use Rattle.transfer_refiner.specs.code.Places.{places_at}
use Rattle.transfer_refiner.proofs.places.places_at.Given as goal

abbrev pub invariant-loop-i : goal.invariant-loop-i
invariant-loop-i l = l.list.items ++ places_at l.places l.site (drop l.i l.files) ≡ places_at l.places l.site l.files
