-- Tests, and places in lists.
use Rattle.std.proofs.Common.{◌≡◌, ℕ, zero, suc, ◌<◌, Bool, true, false, cond, eqb, List, [], ◌∷◌, ◌++◌, length, take, drop, refl, sym, ap, arith}
use Rattle.std.proofs.lemmas.List.{take_at}
use Rattle.std.specs.Prelude.{None, slice_get}
use Rattle.lease_rules.specs.State.{put}

pub not_true : (b : Bool) → (b ≡ true → ⊥) → b ≡ false
not_true true h = absurd (h refl)
not_true false h = refl

pub true_false : (b : Bool) → b ≡ true → b ≡ false → ⊥
true_false b h k = absurd cc

-- a number below the length stands for an element
pub not_none : {A : Type 0} (xs : List A) (i : ℕ) → i < length xs → slice_get xs i ≡ None → ⊥
not_none [] i l e = absurd (omega (arith, l))
not_none (x ∷ xs) zero l e = absurd cc
not_none (x ∷ xs) (suc i) l e = not_none xs i (omega (arith, l)) e

-- a value put at a number
pub put_at : {X : Type 0} (f : ℕ → X) (t : ℕ) (x : X) → put f t x t ≡ x
put_at f t x = ap (λ (b : Bool). cond b x (f t)) (let e : eqb t t ≡ true = grind arith in e)

pub put_off : {X : Type 0} (f : ℕ → X) (t : ℕ) (x : X) (u : ℕ) → eqb t u ≡ false → put f t x u ≡ f u
put_off f t x u e = ap (λ (b : Bool). cond b x (f u)) e

-- what was lent as a slice
pub lent : {X : Type 0} (n : ℕ) (after before : List X) → length after ≡ n → after ≡ take n (after ++ drop (length after) before)
lent n after before e = sym (take_at after (drop (length after) before) n e)
