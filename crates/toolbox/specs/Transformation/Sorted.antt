-- The lines of the input in byte order, equal ones kept.
use Rattle.std.specs.Prelude.{◌≡◌, ℕ, ◌+◌, Bool, false, List, [], ◌∷◌, if◌then◌else◌}
use Rattle.std.specs.Ordering.{nat_cmp, is_gt}
use Rattle.std.specs.Cmp.Lexicographic.{slice_cmp}
use Rattle.std.specs.Str.{bytes_eq}
use Rattle.toolbox.specs.Lines.{lines, written}

-- whether a line comes after another one in byte order
abbrev pub is_after : List ℕ → List ℕ → Bool
is_after a b = is_gt (slice_cmp nat_cmp a b)

-- a line put in before the first one that it doesn't come after
abbrev pub put : List ℕ → List (List ℕ) → List (List ℕ)
put line [] = line ∷ []
put line (first ∷ rest) = if is_after line first then first ∷ put line rest else line ∷ first ∷ rest

-- each line put in at its place
abbrev pub in_order : List (List ℕ) → List (List ℕ)
in_order [] = []
in_order (line ∷ rest) = put line (in_order rest)

abbrev pub sorted : List ℕ → List ℕ
sorted input = written (in_order (lines input))

-- no line comes after the next one, the first of them being this one
abbrev pub RisesFrom : List ℕ → List (List ℕ) → Type 0
RisesFrom line [] = Unit {0}
RisesFrom line (next ∷ rest) = (is_after line next ≡ false) × RisesFrom next rest

-- no line comes after the next one
abbrev pub Rises : List (List ℕ) → Type 0
Rises [] = Unit {0}
Rises (line ∷ rest) = RisesFrom line rest

-- how often a line occurs
abbrev pub times : List ℕ → List (List ℕ) → ℕ
times line [] = 0
times line (first ∷ rest) = (if bytes_eq line first then 1 else 0) + times line rest
