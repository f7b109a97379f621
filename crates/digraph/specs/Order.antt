-- Topological orders. `e a b` tells whether an edge leads from a to b.
use Rattle.std.specs.Prelude.{◌≡◌, ℕ, ◌<◌, Bool, true, List, length, take, slice_index_or}
use Rattle.std.specs.List.{All}
use Rattle.digraph.specs.Adjacency.{has_node, times}

-- where an edge leads from a to a node of the list, a comes before that node
abbrev pub IsInOrder : (ℕ → ℕ → Bool) → List ℕ → Type 0
IsInOrder e ns =
    (i n : ℕ) → i < length ns → slice_index_or ns i n ≡ n
    → (a : ℕ) → e a n ≡ true → has_node a (take i ns) ≡ true

-- each node below the count once, after all from which an edge leads to it
pub record IsTopologicalOrder (e : ℕ → ℕ → Bool) (count : ℕ) (ns : List ℕ) : Type 0 where
  pub in_range : All (λ n. n < count) ns
  pub each_once : (b : ℕ) → b < count → times b ns ≡ 1
  pub in_order : IsInOrder e ns
