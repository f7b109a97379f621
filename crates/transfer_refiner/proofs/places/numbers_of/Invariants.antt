use Rattle.std.proofs.Common.{◌≡◌, ℕ, drop}
use Rattle.std.specs.Prelude.{position}
use Rattle.transfer_refiner.specs.code.Places.{is_pair_of}
use Rattle.transfer_refiner.proofs.PlacesLemmas.{place_in}
use Rattle.transfer_refiner.proofs.places.numbers_of.Given as goal

abbrev pub invariant-loop-place : goal.invariant-loop-place
invariant-loop-place l = (s f : ℕ) → place_in l.numbers.entries l.place (drop l.place l.pairs) s f ≡ position (is_pair_of s f) l.pairs
