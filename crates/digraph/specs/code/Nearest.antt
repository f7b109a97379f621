-- The nearest of some nodes, by a table of distances.
use Rattle.std.specs.Prelude.{◌≡◌, ℕ, ◌≤◌, true, List, min, Option, Some, None}
use Rattle.digraph.specs.Adjacency.{has_node}
use Rattle.digraph.specs.code.Distances.{distance_at}

-- the lesser of two numbers, where there are two
abbrev pub lesser : Option ℕ → Option ℕ → Option ℕ
lesser None y = y
lesser (Some x) None = Some x
lesser (Some x) (Some y) = Some (min x y)

-- the least distance of these nodes
abbrev pub IsNearest : List (Option ℕ) → List ℕ → Option ℕ → Type 0
IsNearest table js None = (b : ℕ) → has_node b js ≡ true → distance_at table b ≡ None
IsNearest table js (Some d) =
    ((c : ℕ) × (has_node c js ≡ true) × (distance_at table c ≡ Some d))
    × ((b x : ℕ) → has_node b js ≡ true → distance_at table b ≡ Some x → d ≤ x)

-- the least of these nodes with a distance
abbrev pub IsLeastAt : List (Option ℕ) → List ℕ → ℕ → Option ℕ → Type 0
IsLeastAt table js d None = (b : ℕ) → has_node b js ≡ true → distance_at table b ≡ Some d → ⊥
IsLeastAt table js d (Some c) =
    (has_node c js ≡ true) × (distance_at table c ≡ Some d)
    × ((b : ℕ) → has_node b js ≡ true → distance_at table b ≡ Some d → c ≤ b)
