-- Lists of numbers.
use Rattle.std.specs.Prelude.{ℕ, zero, suc, ◌==◌, Bool, cond, List, [], ◌∷◌, ◌++◌, Option, Some, None}
use Rattle.std.specs.List.{list_any}

abbrev pub has : List ℕ → ℕ → Bool
has xs x = list_any (λ y. y == x) xs

-- the numbers below n that pass, rising
unfoldable pub below : ℕ → (ℕ → Bool) → List ℕ
below zero test = []
below (suc n) test = below n test ++ cond (test n) (n ∷ []) []

abbrev pub or_else : {A : Type 0} → Option A → Option A → Option A
or_else None y = y
or_else (Some x) y = Some x

-- the least number below n that passes
unfoldable pub least : ℕ → (ℕ → Bool) → Option ℕ
least zero test = None
least (suc n) test = or_else (least n test) (cond (test n) (Some n) None)
