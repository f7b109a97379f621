-- A list of live numbers: None where a position isn't live.
use Rattle.std.specs.Prelude.{◌≡◌, ℕ, ℤ, zero, suc, pos, ◌-◌, ◌≤◌, ◌^◌, ◌+ℤ◌, ◌≤ℤ◌, max, unsigned_abs, List, [], ◌∷◌, ◌++◌, length, map, get_or, replicate, Option, Some, None}

-- the greater one of two numbers
abbrev pub greater : Option ℕ → Option ℕ → Option ℕ
greater None y = y
greater (Some x) None = Some x
greater (Some x) (Some y) = Some (max x y)

-- the greatest number of a list, None where none is live
abbrev pub greatest : List (Option ℕ) → Option ℕ
greatest [] = None
greatest (x ∷ xs) = greater x (greatest xs)

-- nothing is live, or this number stands in the list and none is greater
abbrev pub IsGreatest : List (Option ℕ) → Option ℕ → Type 0
IsGreatest xs None = (i : ℕ) → get_or xs i None ≡ None
IsGreatest xs (Some n) = ((i : ℕ) × (get_or xs i None ≡ Some n))
    × ((i v : ℕ) → get_or xs i None ≡ Some v → v ≤ n)

-- a number with this added, where it is live
abbrev pub added : ℤ → Option ℕ → Option ℕ
added delta None = None
added delta (Some n) = Some (unsigned_abs (pos n +ℤ delta))

-- a number isn't live, or comes to 0 up to 2^62 with this added
abbrev pub StaysInRange : ℤ → Option ℕ → Type 0
StaysInRange delta None = Unit
StaysInRange delta (Some n) = (pos 0 ≤ℤ (pos n +ℤ delta)) × ((pos n +ℤ delta) ≤ℤ pos (2 ^ 62))

-- the list with this added to its first numbers
abbrev pub add_front : ℕ → ℤ → List (Option ℕ) → List (Option ℕ)
add_front zero delta xs = xs
add_front (suc count) delta [] = []
add_front (suc count) delta (x ∷ xs) = added delta x ∷ add_front count delta xs

-- these numbers, and then positions that aren't live up to so many in all
abbrev pub filled : List ℕ → ℕ → List (Option ℕ)
filled ns count = map Some ns ++ replicate (count - length ns) None
