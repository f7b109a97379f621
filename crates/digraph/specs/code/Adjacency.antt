-- Beside `specs/Adjacency.antt`: what the code's own contracts say.
use Rattle.std.specs.Prelude.{◌≡◌, ℕ, ◌<◌, Bool, List, [], ◌∷◌, length, map, Vec}
use Rattle.std.specs.List.{All}
use Rattle.std.specs.declared.alloc.Global.{Global}
use Rattle.std.specs.Coded.{×_prop, Unit-prop}
use Rattle.std.proofs.Props.{props}
use Rattle.digraph.specs.Adjacency.{neighbours, has_node, IsRising}

abbrev pub lists_of : List (Vec ℕ Global) → List (List ℕ)
lists_of vs = map (λ (v : Vec ℕ Global). v.items) vs

pub IsRising-prop : (ns : List ℕ) → IsProp (IsRising ns)
IsRising-prop [] = Unit-prop
IsRising-prop (n ∷ ns) = ×_prop (Prim.hlevel props) (IsRising-prop ns)

-- An edge leads from a to b where b stands in the list of a; the other way, where a stands in the
-- list of b.
abbrev pub leads : List (List ℕ) → ℕ → ℕ → Bool
leads successors a b = has_node b (neighbours successors a)

abbrev pub comes : List (List ℕ) → ℕ → ℕ → Bool
comes predecessors a b = has_node a (neighbours predecessors b)

-- b stands in the new list of a exactly where a stands in the old list of b, once, in rising order
pub record IsTransposed (old new : List (List ℕ)) : Type 0 where
  pub long : length new ≡ length old
  pub rising : (k : ℕ) → IsRising (neighbours new k)
  pub in_range : (k : ℕ) → All (λ n. n < length old) (neighbours new k)
  pub same : (a b : ℕ) → has_node a (neighbours new b) ≡ has_node b (neighbours old a)

-- The predecessors and the successors of each node: both ways the same edges, each once, in rising
-- order.
pub record AreLinked (predecessors successors : List (List ℕ)) : Type 0 where
  pub long : length successors ≡ length predecessors
  pub predecessors_rising : (k : ℕ) → IsRising (neighbours predecessors k)
  pub successors_rising : (k : ℕ) → IsRising (neighbours successors k)
  pub predecessors_in : (k : ℕ) → All (λ n. n < length predecessors) (neighbours predecessors k)
  pub successors_in : (k : ℕ) → All (λ n. n < length predecessors) (neighbours successors k)
  pub same : (a b : ℕ) → has_node a (neighbours predecessors b) ≡ has_node b (neighbours successors a)

pub AreLinked-prop : (predecessors successors : List (List ℕ))
    → IsProp (AreLinked predecessors successors)
AreLinked-prop predecessors successors = Prim.hlevel (props, IsRising-prop)
