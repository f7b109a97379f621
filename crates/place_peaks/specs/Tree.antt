-- What calls on one tree do, and the test of room.
use Rattle.std.specs.Prelude.{ℕ, zero, suc, ◌+◌, ◌-◌, ◌^◌, ◌≤◌, List, [], ◌∷◌, Option, Some, None}

-- a number that is live is changed
abbrev pub on : (ℕ → ℕ) → Option ℕ → Option ℕ
on f None = None
on f (Some n) = Some (f n)

-- the first numbers are changed
abbrev pub front_changed : ℕ → (ℕ → ℕ) → List (Option ℕ) → List (Option ℕ)
front_changed zero f xs = xs
front_changed (suc n) f [] = []
front_changed (suc n) f (x ∷ xs) = on f x ∷ front_changed n f xs

-- no live number is above this one
abbrev pub IsUpTo : ℕ → Option ℕ → Type 0
IsUpTo b None = Unit {0}
IsUpTo b (Some n) = n ≤ b

-- of each of the first numbers
abbrev pub AllFirst : ℕ → (Option ℕ → Type 0) → List (Option ℕ) → Type 0
AllFirst zero P xs = Unit {0}
AllFirst (suc n) P [] = Unit {0}
AllFirst (suc n) P (x ∷ xs) = P x × AllFirst n P xs

-- a number can be raised by so much, and lowered by so much
abbrev pub CanRise : ℕ → Option ℕ → Type 0
CanRise by None = Unit {0}
CanRise by (Some n) = n + by ≤ 2 ^ 62

abbrev pub CanFall : ℕ → Option ℕ → Type 0
CanFall by None = Unit {0}
CanFall by (Some n) = (by ≤ n) × (n ≤ 2 ^ 62)

-- So much fits below the bound where a place holds so much before the first task, and so much at most after one of the
-- tasks before it.
abbrev pub HasRoom : ℕ → ℕ → Option ℕ → ℕ → Type 0
HasRoom need base top bound = (need ≤ bound) × (base ≤ bound - need) × IsUpTo (bound - need) top
