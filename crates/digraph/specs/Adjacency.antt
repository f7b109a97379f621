-- Adjacency lists: a list of neighbours for each node below a count.
use Rattle.std.specs.Prelude.{◌≡◌, ℕ, ◌+◌, ◌<◌, ◌==◌, if◌then◌else◌, Bool, List, [], ◌∷◌, length, slice_index_or}
use Rattle.std.specs.List.{list_any, All}

-- the list of a node: empty where there is no such node
abbrev pub neighbours : List (List ℕ) → ℕ → List ℕ
neighbours ls i = slice_index_or ls i []

-- one of the nodes is this one
abbrev pub has_node : ℕ → List ℕ → Bool
has_node a ns = list_any (λ n. n == a) ns

-- how often a node stands in a list
abbrev pub times : ℕ → List ℕ → ℕ
times a [] = 0
times a (n ∷ ns) = (if n == a then 1 else 0) + times a ns

-- each is less than those after it
abbrev pub IsRising : List ℕ → Type 0
IsRising [] = Unit {0}
IsRising (n ∷ ns) = All (λ m. n < m) ns × IsRising ns

-- The lists have a list for each node, and it has, in rising order, exactly those to which an edge
-- leads.
pub record AreNeighbours (e : ℕ → ℕ → Bool) (count : ℕ) (ls : List (List ℕ)) : Type 0 where
  pub long : length ls ≡ count
  pub rising : (k : ℕ) → IsRising (neighbours ls k)
  pub in_range : (k : ℕ) → All (λ n. n < count) (neighbours ls k)
  pub same : (a b : ℕ) → has_node b (neighbours ls a) ≡ e a b
