-- Distances, and the tables that have them.
use Rattle.std.proofs.Common.{◌≡◌, ℕ, zero, suc, ◌≤◌, Bool, List, sym, ap, ◌∙◌, arith}
use Rattle.std.specs.Prelude.{Option, Some, None}
use Rattle.digraph.specs.code.Distances.{AreDistances, IsDistance, distance_at}
use Rattle.digraph.specs.Distances.{Walk}
use Rattle.digraph.specs.code.Search.{IsDistanceTable}

-- the distances that a table tells are the distances
pub walk_distance : (e : ℕ → ℕ → Bool) (s : ℕ) (table : List (Option ℕ)) → IsDistanceTable e s table → (n a : ℕ) → Walk e n a s → (x : ℕ) × (distance_at table a ≡ Some x) × (x ≤ n)
walk_distance e s table right zero a walk = (0, ap (distance_at table) walk ∙ right.start, omega arith)
walk_distance e s table right (suc n) a walk =
    let rest = walk_distance e s table right n walk.0 walk.2 in
    let here = right.near a walk.0 rest.0 walk.1 rest.1 in
    (here.0, here.1, omega (arith, here.2, rest.2))

distance_walk : (e : ℕ → ℕ → Bool) (s : ℕ) (table : List (Option ℕ)) → IsDistanceTable e s table → (d a : ℕ) → distance_at table a ≡ Some d → Walk e d a s
distance_walk e s table right zero a h = right.only a h
distance_walk e s table right (suc d) a h = let next = right.down a d h in (next.0, next.1, distance_walk e s table right d next.0 next.2)

pub is_distance : (e : ℕ → ℕ → Bool) (s : ℕ) (table : List (Option ℕ)) → IsDistanceTable e s table → (a d : ℕ) → distance_at table a ≡ Some d → IsDistance e s a d
is_distance e s table right a d h = record {
  walk = distance_walk e s table right d a h;
  least = λ n walk. let found = walk_distance e s table right n a walk in let same : Some d ≡ Some found.0 = sym h ∙ found.1 in let equal : d ≡ found.0 = cc in omega (arith, equal, found.2);
}

pub distance_is_at : (e : ℕ → ℕ → Bool) (s : ℕ) (table : List (Option ℕ)) → IsDistanceTable e s table → (a d : ℕ) → IsDistance e s a d → distance_at table a ≡ Some d
distance_is_at e s table right a d distance =
    let found = walk_distance e s table right d a distance.walk in
    let low : d ≤ found.0 = distance.least found.0 (distance_walk e s table right found.0 a found.1) in
    found.1 ∙ ap Some (omega (arith, low, found.2))

pub are_distances : (e : ℕ → ℕ → Bool) (s : ℕ) (table : List (Option ℕ)) → IsDistanceTable e s table → AreDistances e s table
are_distances e s table right = record {
  some = is_distance e s table right;
  none = λ a n none walk. let found = walk_distance e s table right n a walk in let same : None ≡ Some found.0 = sym none ∙ found.1 in cc;
}
