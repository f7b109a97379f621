-- Numbers of few digits are small.
use Rattle.std.proofs.Common.{ℕ, zero, suc, ◌*◌, ◌≤◌, arith}

-- the least number of more digits
abbrev pub bound : ℕ → ℕ
bound zero = 1
bound (suc n) = 10 * bound n

pub small : (n : ℕ) → n ≤ 5 → bound n ≤ 100000
small zero h = omega arith
small (suc zero) h = omega arith
small (suc (suc zero)) h = omega arith
small (suc (suc (suc zero))) h = omega arith
small (suc (suc (suc (suc zero)))) h = omega arith
small (suc (suc (suc (suc (suc zero))))) h = omega arith
small (suc (suc (suc (suc (suc (suc n)))))) h = absurd (omega (arith, h))
