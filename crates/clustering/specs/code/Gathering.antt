-- Beside `specs/Gathering.antt`: what the code's own contracts say.
use Rattle.std.specs.Prelude.{ℕ, zero, suc, List, [], ◌∷◌, ◌++◌}
use Rattle.values.specs.declared.numbers.JobId.{JobId}

-- one job more in the part at a place, or in a new one at the end
abbrev pub with_at : List (List JobId) → ℕ → JobId → List (List JobId)
with_at [] i j = (j ∷ []) ∷ []
with_at (p ∷ ps) zero j = (p ++ j ∷ []) ∷ ps
with_at (p ∷ ps) (suc i) j = p ∷ with_at ps i j
