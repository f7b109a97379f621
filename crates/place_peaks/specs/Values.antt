-- What a place holds after each of those tasks of an order that change it.
use Rattle.std.specs.Prelude.{ℕ, Bool, true, cond, List, [], ◌∷◌, ◌++◌, Option, Some, None}

-- the tasks of a front, with one more where it is left
abbrev pub next : (ℕ → Bool) → List ℕ → ℕ → List ℕ
next left front t = cond (left t) (front ++ t ∷ []) front

abbrev pub value : Bool → ℕ → Option ℕ
value b n = cond b (Some n) None

abbrev pub all_left : ℕ → Bool
all_left t = true

-- For each task of the order that is there: what is held after it and the tasks before it that are left, where it is left
-- itself; nothing else.
abbrev pub values : (ℕ → Bool) → (ℕ → Bool) → (List ℕ → ℕ) → List ℕ → List ℕ → List (Option ℕ)
values there left held front [] = []
values there left held front (t ∷ ts) =
    cond (there t) (value (left t) (held (next left front t)) ∷ values there left held
    (next left front t) ts) (values there left held (next left front t) ts)
