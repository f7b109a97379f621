-- Ranks of nodes. `e a b` tells whether an edge leads from a to b.
use Rattle.std.specs.Prelude.{◌≡◌, ℕ, ◌≤◌, Bool, true, List, Option, Some}
use Rattle.digraph.specs.code.Distances.{distance_at}

-- to a node with a rank edges lead only from nodes with a rank that is no higher
abbrev pub AreRanks : (ℕ → ℕ → Bool) → List (Option ℕ) → Type 0
AreRanks e table =
    (a b x : ℕ) → e a b ≡ true → distance_at table b ≡ Some x
    → (y : ℕ) × (distance_at table a ≡ Some y) × (y ≤ x)
