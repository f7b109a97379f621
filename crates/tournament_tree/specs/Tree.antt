-- The least of the first keys, and rows over rows of keys.
use Rattle.std.specs.Prelude.{◌≡◌, ℕ, zero, suc, ◌+◌, ◌*◌, ◌/◌, ◌%◌, ◌-◌, ◌≤◌, ◌<◌, ◌==◌, ◌||◌, ◌&&◌, Bool, false, cond, nat_lt, nat_eq, List, [], length, get_or, Option, Some, None, slice_get, Vec}
use Rattle.std.specs.declared.alloc.Global.{Global}
use Rattle.tournament_tree.specs.declared.tree.Key.{Key}

-- of less score, or of equal score and less number
abbrev pub is_less : Key → Key → Bool
is_less a b = nat_lt a.score b.score || (nat_eq a.score b.score && nat_lt a.number b.number)

-- the first one, unless the second is less
abbrev pub better : Option Key → Option Key → Option Key
better None y = y
better (Some a) None = Some a
better (Some a) (Some b) = cond (is_less b a) (Some b) (Some a)

-- the least of the first n
unfoldable pub least : (ℕ → Option Key) → ℕ → Option Key
least f zero = None
least f (suc n) = better (least f n) (f n)

-- none from a on and below b has a key, or this is one of their keys and none of them is less
abbrev pub IsLeast : (ℕ → Option Key) → ℕ → ℕ → Option Key → Type 0
IsLeast f a b None = (i : ℕ) → a ≤ i → i < b → f i ≡ None
IsLeast f a b (Some k) = ((i : ℕ) × (a ≤ i) × (i < b) × (f i ≡ Some k))
    × ((i : ℕ) (l : Key) → a ≤ i → i < b → f i ≡ Some l → is_less l k ≡ false)

-- the least from a on and below b
abbrev pub least_from : (ℕ → Option Key) → ℕ → ℕ → Option Key
least_from f a b = least (λ i. f (a + i)) (b - a)

-- the ends of a range that have no fellow in it
abbrev pub with_first : (ℕ → Option Key) → ℕ → ℕ → Option Key → Option Key
with_first f low high best = cond (nat_lt low high && (low % 2 == 1)) (better best (f low)) best

abbrev pub with_last : (ℕ → Option Key) → ℕ → ℕ → Option Key → Option Key
with_last f low high best = cond (nat_lt (low + low % 2) high && (high % 2 == 1))
    (better (f (high - 1)) best) best

abbrev pub keys_in : Option (Vec (Option Key) Global) → List (Option Key)
keys_in None = []
keys_in (Some v) = v.items

abbrev pub row : List (Vec (Option Key) Global) → ℕ → List (Option Key)
row rs h = keys_in (slice_get rs h)

abbrev pub entry : List (Vec (Option Key) Global) → ℕ → ℕ → Option Key
entry rs h i = get_or (row rs h) i None

-- halved so many times
abbrev pub halved : ℕ → ℕ → ℕ
halved zero n = n
halved (suc h) n = halved h n / 2

-- Rows of keys, each half as long as the one below it: a key is the better of the two below.
pub record IsTree (rs : List (Vec (Option Key) Global)) : Type 0 where
  pub some : 0 < length rs
  pub few : length rs ≤ 64
  pub small : (h : ℕ) → length (row rs h) ≤ 200000
  pub covers : halved (length rs) (length (row rs 0)) ≡ 0
  pub wide : (h i : ℕ) → h + 1 < length rs → i < length (row rs h) → i / 2 < length (row rs (h + 1))
  pub pairs : (h i : ℕ) → h + 1 < length rs
      → entry rs (h + 1) i ≡ better (entry rs h (2 * i)) (entry rs h (2 * i + 1))

-- so many places, and no key
pub record IsBare (xs : List (Option Key)) (n : ℕ) : Type 0 where
  pub long : length xs ≡ n
  pub none : (i : ℕ) → get_or xs i None ≡ None

-- the first h rows, each of half the width of the one below, without a key; w is the width of the next one
pub record IsEmpty (rs : List (Vec (Option Key) Global)) (n h w : ℕ) : Type 0 where
  pub long : length rs ≡ h
  pub first : 0 < h → length (row rs 0) ≡ n
  pub small : (k : ℕ) → length (row rs k) ≤ 200000
  pub wide : (k i : ℕ) → k + 1 < h → i < length (row rs k) → i / 2 < length (row rs (k + 1))
  pub next : (k i : ℕ) → k + 1 ≡ h → i < length (row rs k) → i / 2 < w
  pub start : h ≡ 0 → w ≡ n
  pub narrow : w ≤ 200000
  pub none : (k i : ℕ) → entry rs k i ≡ None
