-- Kahn's algorithm: for each node how many predecessors it still waits for.
use Rattle.std.specs.Prelude.{◌≡◌, ◌≢◌, ℕ, ◌+◌, ◌<◌, ◌==◌, if◌then◌else◌, true, List, [], ◌∷◌, ◌++◌, length, slice_index_or}
use Rattle.std.specs.List.{All}
use Rattle.digraph.specs.Adjacency.{has_node, times}
use Rattle.digraph.specs.code.Adjacency.{comes}
use Rattle.digraph.specs.Order.{IsInOrder}

-- how many predecessors a node still waits for; where there is no node, one waits for ever
abbrev pub waits_for : List ℕ → ℕ → ℕ
waits_for counts b = slice_index_or counts b 1

-- 1 where a node waits for none
abbrev pub free : List ℕ → ℕ → ℕ
free counts b = if waits_for counts b == 0 then 1 else 0

-- how many nodes wait
abbrev pub waiting : List ℕ → ℕ
waiting [] = 0
waiting (x ∷ xs) = (if x == 0 then 0 else 1) + waiting xs

-- how many of some nodes aren't among those that are placed
abbrev pub missing : List ℕ → List ℕ → ℕ
missing placed [] = 0
missing placed (p ∷ ps) = (if has_node p placed then 0 else 1) + missing placed ps

-- what becomes of the counts and of the order once some nodes have one predecessor less to wait for
pub record IsReleased (counts new : List ℕ) (ordered longer successors : List ℕ) : Type 0 where
  pub fewer : (b : ℕ) → waits_for new b + times b successors ≡ waits_for counts b
  pub placed : (b : ℕ) → times b longer + free counts b ≡ times b ordered + free new b
  pub kept : waiting new + length longer ≡ waiting counts + length ordered
  pub more : List ℕ
  pub is : longer ≡ ordered ++ more
  pub done : All (λ n. waits_for new n ≡ 0) more

-- The order holds each node that waits for none, once; each other node waits for a node that waits.
pub record IsPlacement (predecessors : List (List ℕ)) (ordered counts : List ℕ) : Type 0 where
  pub long : length counts ≡ length predecessors
  pub placed : (b : ℕ) → times b ordered ≡ free counts b
  pub in_order : IsInOrder (comes predecessors) ordered
  pub kept : waiting counts + length ordered ≡ length predecessors
  pub stuck : (b : ℕ) → b < length predecessors → waits_for counts b ≢ 0
      → (a : ℕ) × (comes predecessors a b ≡ true)
      × (a < length predecessors) × (waits_for counts a ≢ 0)
