-- Sums of the first goods of a list.
use Rattle.std.proofs.Common.{◌≡◌, ℕ, zero, suc, ◌+◌, ◌≤◌, ◌<◌, List, [], ◌∷◌, length, take, get_or, refl, ap, ◌∙◌, arith}
use Rattle.storage_simulation.specs.Usage.{sum_of}

pub sum_take : (w : ℕ → ℕ) (xs : List ℕ) (k : ℕ) → k < length xs → sum_of w (take (suc k) xs) ≡ sum_of w (take k xs) + w (get_or xs k 0)
sum_take w [] k l = absurd (omega (arith, l))
sum_take w (x ∷ xs) zero l = let e = none xs in omega (arith, e)
  where
    none : (ys : List ℕ) → sum_of w (take 0 ys) ≡ 0
    none [] = refl
    none (y ∷ ys) = refl
sum_take w (x ∷ xs) (suc k) l = let e = sum_take w xs k (omega (arith, l)) in omega (arith, e)

pub sum_take_less : (w : ℕ → ℕ) (xs : List ℕ) (k : ℕ) → sum_of w (take k xs) ≤ sum_of w xs
sum_take_less w [] zero = omega arith
sum_take_less w [] (suc k) = omega arith
sum_take_less w (x ∷ xs) zero = omega arith
sum_take_less w (x ∷ xs) (suc k) = let e = sum_take_less w xs k in omega (arith, e)

pub sum_take_all : (w : ℕ → ℕ) (xs : List ℕ) (k : ℕ) → k ≡ length xs → sum_of w (take k xs) ≡ sum_of w xs
sum_take_all w xs k e = ap (λ (n : ℕ). sum_of w (take n xs)) e ∙ ap (sum_of w) (all xs)
  where
    all : (ys : List ℕ) → take (length ys) ys ≡ ys
    all [] = refl
    all (y ∷ ys) = ap (λ (zs : List ℕ). y ∷ zs) (all ys)
