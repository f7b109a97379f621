-- Beside `specs/RunPolicy.antt`: what the code's own contracts say.
use Rattle.std.specs.Prelude.{ℕ, ◌^◌, ◌≤◌, Option, Some, None}
use Rattle.values.specs.declared.policy.Policy.{Policy}

abbrev pub IsSmallBound : Option ℕ → Type 0
IsSmallBound None = Unit {0}
IsSmallBound (Some n) = n ≤ 2 ^ 60

-- at most ten retries, and a bound on the output of at most 2^60 bytes
pub record IsPolicyInRange (p : Policy) : Type 0 where
  pub retries : p.retries ≤ 10
  pub output : IsSmallBound p.output
