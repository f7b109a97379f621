-- A sequence of positions, each in a group, some of them with a number.
use Rattle.std.specs.Prelude.{◌≡◌, ℕ, ◌≤◌, ◌<◌, ◌==◌, List, [], length, take, filter, get_or, slice_get, Option, Some, None, Vec}
use Rattle.std.specs.declared.alloc.Global.{Global}
use Rattle.tournament_tree.specs.Tree.{IsTree, entry, row}
use Rattle.tournament_tree.specs.declared.tree.Key.{Key}
use Rattle.tournament_tree.specs.declared.tree.Tree.{Tree}
use Rattle.group_index.specs.declared.index.GroupIndex.{GroupIndex}

abbrev pub rows_of : Option Tree → List (Vec (Option Key) Global)
rows_of None = []
rows_of (Some t) = t.rows.items

abbrev pub rows_at : List Tree → ℕ → List (Vec (Option Key) Global)
rows_at ts g = rows_of (slice_get ts g)

abbrev pub key_at : List Tree → ℕ → ℕ → Option Key
key_at ts g i = entry (rows_at ts g) 0 i

-- how many places the tree of a group has
abbrev pub width_at : List Tree → ℕ → ℕ
width_at ts g = length (row (rows_at ts g) 0)

abbrev pub AreTrees : List Tree → Type 0
AreTrees ts = (g : ℕ) → g < length ts → IsTree (rows_at ts g)

abbrev pub count : GroupIndex → ℕ
count x = length x.groups.items

abbrev pub group : GroupIndex → ℕ → ℕ
group x k = get_or x.groups.items k 0

abbrev pub seat : GroupIndex → ℕ → ℕ
seat x k = get_or x.seats.items k 0

abbrev pub score_of : Option Key → Option ℕ
score_of None = None
score_of (Some key) = Some key.score

abbrev pub key_of : ℕ → Option ℕ → Option Key
key_of k None = None
key_of k (Some n) = Some (record { score = n; number = k })

-- the number of a position
abbrev pub number : GroupIndex → ℕ → Option ℕ
number x k = score_of (key_at x.trees.items (group x k) (seat x k))

-- how many of the first k positions have the group
abbrev pub count_before : List ℕ → ℕ → ℕ → ℕ
count_before gs g k = length (filter (λ h. h == g) (take k gs))

-- position k is this place of the group
pub record IsPlace (x : GroupIndex) (k g i : ℕ) : Type 0 where
  pub within : k < count x
  pub in_group : group x k ≡ g
  pub in_seat : seat x k ≡ i

-- Each position has its place in the tree of its group, and each key is that of a position.
pub record IsIndex (x : GroupIndex) : Type 0 where
  pub few : count x ≤ 200000
  pub seats_long : length x.seats.items ≡ count x
  pub used_long : length x.used.items ≡ length x.trees.items
  pub in_groups : (k : ℕ) → k < count x → group x k < length x.trees.items
  pub places : (k : ℕ) → k < count x → seat x k ≡ count_before x.groups.items (group x k) k
  pub trees : AreTrees x.trees.items
  pub wide : (g : ℕ) → g < length x.trees.items
      → width_at x.trees.items g ≡ count_before x.groups.items g (count x)
  pub keys : (g i : ℕ) (key : Key) → key_at x.trees.items g i ≡ Some key → IsPlace x key.number g i

-- how many places of a group stand before a position of it, or at all
abbrev pub end_of : GroupIndex → ℕ → Option ℕ → ℕ
end_of x g None = width_at x.trees.items g
end_of x g (Some k) = seat x k

-- a position of the group, or all
abbrev pub IsEnd : GroupIndex → ℕ → Option ℕ → Type 0
IsEnd x g None = Unit {0}
IsEnd x g (Some k) = (k < count x) × (group x k ≡ g)

abbrev pub IsBefore : Option ℕ → ℕ → Type 0
IsBefore None j = Unit {0}
IsBefore (Some k) j = j < k

-- a position of the group before the end, of which no number is less than this one
pub record IsLeastAt (x : GroupIndex) (g : ℕ) (end : Option ℕ) (k : ℕ) : Type 0 where
  pub within : k < count x
  pub in_group : group x k ≡ g
  pub before : IsBefore end k
  pub least : ℕ
  pub is : number x k ≡ Some least
  pub none_less : (j n : ℕ) → j < count x → group x j ≡ g → IsBefore end j → number x j ≡ Some n → least ≤ n

abbrev pub IsLeastBefore : GroupIndex → ℕ → Option ℕ → Option ℕ → Type 0
IsLeastBefore x g end None = (j : ℕ) → j < count x → group x j ≡ g → IsBefore end j → number x j ≡ None
IsLeastBefore x g end (Some k) = IsLeastAt x g end k

-- each group stands as often in both lists
abbrev pub AreAsMany : ℕ → List ℕ → List ℕ → Type 0
AreAsMany groups xs ys = (g : ℕ) → g < groups → count_before xs g (length xs) ≡ count_before ys g (length ys)

-- the places of the first k positions, and how many each group has so far
pub record AreSeated (groups seats used : List ℕ) (k : ℕ) : Type 0 where
  pub each : (j : ℕ) → j < k → get_or seats j 0 ≡ count_before groups (get_or groups j 0) j
  pub counts : (g : ℕ) → g < length used → get_or used g 0 ≡ count_before groups g k

-- no key at all
abbrev pub AreBare : List Tree → Type 0
AreBare ts = (g i : ℕ) → key_at ts g i ≡ None
