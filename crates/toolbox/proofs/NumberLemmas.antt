-- Numbers of so many digits.
use Rattle.std.proofs.Common.{ℕ, ◌^◌, ◌<◌, ◌≤◌, arith}
use Rattle.std.proofs.Math.Nat.{pow-le-pow_right}

pub below_more : (n i k : ℕ) → n < 10 ^ i → i ≤ k → n < 10 ^ k
below_more n i k small short =
    let more : 10 ^ i ≤ 10 ^ k = pow-le-pow_right {n = 10} (omega arith) {i = i} {j = k} short in
    omega arith
