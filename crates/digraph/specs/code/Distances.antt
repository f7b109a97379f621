-- Beside `specs/Distances.antt`: what the code's own contracts say.
use Rattle.std.specs.Prelude.{◌≡◌, ℕ, ◌≤◌, Bool, List, Option, Some, None, slice_index_or}
use Rattle.digraph.specs.Distances.{Walk}

-- the least number of edges that lead from a to s is d
pub record IsDistance (e : ℕ → ℕ → Bool) (s a d : ℕ) : Type 0 where
  pub walk : Walk e d a s
  pub least : (n : ℕ) → Walk e n a s → d ≤ n

-- what a table says of a node
abbrev pub distance_at : List (Option ℕ) → ℕ → Option ℕ
distance_at table c = slice_index_or table c None

-- The table has the distance from each node to s, and none exactly where no walk leads there.
pub record AreDistances (e : ℕ → ℕ → Bool) (s : ℕ) (table : List (Option ℕ)) : Type 0 where
  pub some : (a d : ℕ) → distance_at table a ≡ Some d → IsDistance e s a d
  pub none : (a n : ℕ) → distance_at table a ≡ None → Walk e n a s → ⊥
