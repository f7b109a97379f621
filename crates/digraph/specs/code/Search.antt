-- Breadth-first search, edge by edge.
use Rattle.std.specs.Prelude.{◌≡◌, ℕ, suc, ◌+◌, ◌≤◌, ◌&&◌, ◌||◌, Bool, true, not, if◌then◌else◌, List, [], ◌∷◌, length, Option, Some, None, is_some}
use Rattle.std.specs.List.{list_any}
use Rattle.digraph.specs.Adjacency.{neighbours, has_node}
use Rattle.digraph.specs.code.Distances.{distance_at}

-- what is said from now on, where a node is newly found
abbrev pub later : Option ℕ → Bool → ℕ → Option ℕ
later (Some x) new d = Some x
later None new d = if new then Some d else None

-- of how many nothing is said
abbrev pub unknown : List (Option ℕ) → ℕ
unknown [] = 0
unknown (o ∷ os) = (if is_some o then 0 else 1) + unknown os

-- Those of the nodes of which nothing was said have this distance now, and stand in the longer
-- list.
pub record IsMarked (old new : List (Option ℕ)) (next longer nodes : List ℕ) (d : ℕ) : Type 0 where
  pub says : (p : ℕ) → distance_at new p ≡ later (distance_at old p) (has_node p nodes) d
  pub found : (p : ℕ) → has_node p longer
      ≡ (has_node p next || (not (is_some (distance_at old p)) && has_node p nodes))
  pub kept : unknown new + length longer ≡ unknown old + length next

-- an edge leads from the node to one of these
abbrev pub reached : List (List ℕ) → List ℕ → ℕ → Bool
reached predecessors js p = list_any (λ j. has_node p (neighbours predecessors j)) js

-- The same of the predecessors of some nodes.
pub record IsSpread
    (predecessors : List (List ℕ)) (old new : List (Option ℕ)) (frontier next : List ℕ) (d : ℕ)
    : Type 0 where
  pub says : (p : ℕ) → distance_at new p
      ≡ later (distance_at old p) (reached predecessors frontier p) d
  pub found : (p : ℕ) → has_node p next
      ≡ (not (is_some (distance_at old p)) && reached predecessors frontier p)
  pub kept : unknown new + length next ≡ unknown old

-- s alone is at 0, from any other node an edge leads one nearer, and no edge leads from further
-- away.
pub record IsDistanceTable (e : ℕ → ℕ → Bool) (s : ℕ) (table : List (Option ℕ)) : Type 0 where
  pub start : distance_at table s ≡ Some 0
  pub only : (c : ℕ) → distance_at table c ≡ Some 0 → c ≡ s
  pub down : (c d : ℕ) → distance_at table c ≡ Some (suc d)
      → (b : ℕ) × (e c b ≡ true) × (distance_at table b ≡ Some d)
  pub near : (c b d : ℕ) → e c b ≡ true → distance_at table b ≡ Some d
      → (x : ℕ) × (distance_at table c ≡ Some x) × (x ≤ suc d)
