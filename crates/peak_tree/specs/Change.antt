-- What a change does to a list.
use Rattle.std.specs.Prelude.{ℕ, zero, suc, List, [], ◌∷◌, Option, None}
use Rattle.peak_tree.specs.Numbers.{added, StaysInRange}
use Rattle.peak_tree.specs.declared.change.Change.{Change}
use Rattle.peak_tree.specs.declared.change.Change.TheVariants.{Add, Remove}

-- what becomes of a number before the position
abbrev pub before : Change → Option ℕ → Option ℕ
before (Add delta) x = added delta x
before Remove x = x

-- what becomes of the number at the position
abbrev pub at : Change → Option ℕ → Option ℕ
at (Add delta) x = added delta x
at Remove x = None

-- what has to hold of each number up to the position
abbrev pub CanTake : Change → Option ℕ → Type 0
CanTake (Add delta) x = StaysInRange delta x
CanTake Remove x = Unit

-- the list with a change made up to a position
abbrev pub changed : Change → ℕ → List (Option ℕ) → List (Option ℕ)
changed change position [] = []
changed change zero (x ∷ xs) = at change x ∷ xs
changed change (suc position) (x ∷ xs) = before change x ∷ changed change position xs
