-- Cycles, and the one that is named. `e a b` tells whether an edge leads from a to b.
use Rattle.std.specs.Prelude.{ℕ, suc, Bool}
use Rattle.digraph.specs.Distances.{Walk}

-- a walk that isn't empty leads from a back to a
abbrev pub Returns : (ℕ → ℕ → Bool) → ℕ → Type 0
Returns e a = (n : ℕ) × Walk e (suc n) a a
