-- Walks along edges, and distances. `e a b` tells whether an edge leads from a to b.
use Rattle.std.specs.Prelude.{◌≡◌, ℕ, zero, suc, Bool, true}

-- a walk of exactly so many edges leads from a to b
abbrev pub Walk : (ℕ → ℕ → Bool) → ℕ → ℕ → ℕ → Type 0
Walk e zero a b = a ≡ b
Walk e (suc n) a b = (c : ℕ) × (e a c ≡ true) × Walk e n c b
