-- Tests, and places in lists.
use Rattle.std.proofs.Common.{◌≡◌, ℕ, zero, suc, ◌+◌, ◌<◌, ◌≤◌, Bool, true, false, List, [], ◌∷◌, length, refl, ap, arith}
use Rattle.std.specs.Prelude.{None, slice_get}

pub not_true : (b : Bool) → (b ≡ true → ⊥) → b ≡ false
not_true true h = absurd (h refl)
not_true false h = refl

pub true_false : (b : Bool) → b ≡ true → b ≡ false → ⊥
true_false b h k = absurd cc

-- a number below the length stands for an element
pub not_none : {A : Type 0} (xs : List A) (i : ℕ) → i < length xs → slice_get xs i ≡ None → ⊥
not_none [] i l e = absurd (omega (arith, l))
not_none (x ∷ xs) zero l e = absurd cc
not_none (x ∷ xs) (suc i) l e = not_none xs i (omega (arith, l)) e

pub both_counts : (x y z : ℕ) → x ≤ y → y ≤ z → x ≤ z
both_counts x y z a b = omega (arith, a, b)

-- one run for each of the jobs before those that are left, and one more
pub one_run_more : {A : Type 0} (left rest : List A) (j : A) (x y z n : ℕ) → left ≡ j ∷ rest → y + length left ≤ x + n → z ≤ y + 1 → z + length rest ≤ x + n
one_run_more left rest j x y z n cut before one = let e : length left ≡ suc (length rest) = ap length cut in omega (arith, e, before, one)

pub last_run : {A : Type 0} (left rest : List A) (j : A) (x y z n : ℕ) → left ≡ j ∷ rest → y + length left ≤ x + n → z ≤ y + 1 → z ≤ x + n
last_run left rest j x y z n cut before one = let e : length left ≡ suc (length rest) = ap length cut in omega (arith, e, before, one)

pub all_run : {A : Type 0} (left : List A) (x y n : ℕ) → left ≡ [] → y + length left ≤ x + n → y ≤ x + n
all_run left x y n none before = omega (arith, before)
