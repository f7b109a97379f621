-- Lists of nodes, one node more at the end of some of them.
use Rattle.std.specs.Prelude.{◌≡◌, ℕ, ◌==◌, Bool, false, cond, List, [], ◌∷◌, ◌++◌}
use Rattle.digraph.specs.Adjacency.{neighbours, has_node}

-- the last node is this one
abbrev pub ends_with : ℕ → List ℕ → Bool
ends_with a [] = false
ends_with a (n ∷ []) = n == a
ends_with a (n ∷ m ∷ ns) = ends_with a (m ∷ ns)

-- what the lists are after a node was added to those of some places
abbrev pub IsScattered : List (List ℕ) → List (List ℕ) → ℕ → List ℕ → Type 0
IsScattered old new node places =
    (k : ℕ) → neighbours new k
    ≡ cond (has_node k places) (neighbours old k ++ node ∷ []) (neighbours old k)
