-- Sums over the numbers below a bound.
use Rattle.std.proofs.Common.{◌≡◌, ℕ, zero, suc, ◌+◌, ◌<◌, ◌≢◌, Bool, true, false, eqb, eqb-true, refl, sym, ap, arith}
use Rattle.std.proofs.lemmas.Bool.{eqb-false}
use Rattle.values.specs.Numbers.{total}

pub total_same : (v w : ℕ → ℕ) (n : ℕ) → ((q : ℕ) → q < n → v q ≡ w q) → total n v ≡ total n w
unfolding total
total_same v w zero h = refl
total_same v w (suc n) h = omega (arith, total_same v w n (λ q l. h q (omega arith)), h n (omega arith))

-- a sum where one place changes
pub total_change : (v w : ℕ → ℕ) (n a : ℕ) → a < n → ((q : ℕ) → q ≢ a → v q ≡ w q) → total n v + w a ≡ total n w + v a
unfolding total
total_change v w zero a l h = absurd (omega arith)
total_change v w (suc n) a l h = by_place (eqb a n) refl (λ m. total_change v w n a m h)
  where
    by_place : (b : Bool) → eqb a n ≡ b → (a < n → total n v + w a ≡ total n w + v a) → total (suc n) v + w a ≡ total (suc n) w + v a
    by_place true e less = let at : a ≡ n = eqb-true a n e in let same = total_same v w n (λ q m. h q (omega arith)) in omega (arith, same, ap v at, ap w at)
    by_place false e less = let off : a ≢ n = eqb-false a n e in let under = less (omega arith) in let here = h n (λ x. off (sym x)) in omega (arith, under, here)
