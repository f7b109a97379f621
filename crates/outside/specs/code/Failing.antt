-- Calls that are to fail.
use Rattle.std.specs.Prelude.{◌≡◌, ℕ, ◌==◌, Bool, List}
use Rattle.std.specs.List.{list_any}
use Rattle.outside.specs.code.Counts.{next_count}
use Rattle.outside.specs.declared.failing.Failing.{Failing}

-- the calls that are to fail, by number from 1, and how many calls were made
abbrev pub failing_calls : Failing → List ℕ
failing_calls f = f.listed.items

abbrev pub calls_made : Failing → ℕ
calls_made f = f.calls

-- the next call is to fail
abbrev pub fails_next : Failing → Bool
fails_next f = list_any (λ n. n == next_count f.calls) f.listed.items

-- One call more was made, and the same ones are to fail.
pub record IsNextCall (before after : Failing) : Type 0 where
  pub listed : failing_calls after ≡ failing_calls before
  pub made : calls_made after ≡ next_count (calls_made before)
