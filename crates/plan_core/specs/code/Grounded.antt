-- Ways back along edges that end. `e a b` tells whether an edge leads from a to b.
use Rattle.std.specs.Prelude.{◌≡◌, ℕ, Bool, true}

-- every way back along the edges from t ends
pub data Grounded (e : ℕ → ℕ → Bool) : ℕ → Type 0 where
  ground : (t : ℕ) → ((s : ℕ) → e s t ≡ true → Grounded e s) → Grounded e t
