use Rattle.std.proofs.Common.{◌≡◌, ℕ, List, drop}
use Rattle.std.specs.Prelude.{position}
use Rattle.replica_catalog.specs.Lookup.{is_of}
use Rattle.replica_catalog.proofs.LookupLemmas.{place_in}
use Rattle.replica_catalog.proofs.lookup.places_of.Given as goal

abbrev pub invariant-loop-place : goal.invariant-loop-place
invariant-loop-place l = (t : List ℕ) → place_in l.places.entries l.place (drop l.place l.entries) t ≡ position (is_of t) l.entries
