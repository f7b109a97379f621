-- Beside `specs/Cycle.antt`: what the code's own contracts say.
use Rattle.std.specs.Prelude.{◌≡◌, ℕ, zero, suc, ◌≤◌, Bool, true, List, [], ◌∷◌}
use Rattle.digraph.specs.code.Distances.{IsDistance}
use Rattle.digraph.specs.Cycle.{Returns}

-- c is the least successor of a with this distance to s
pub record IsNext (e : ℕ → ℕ → Bool) (s a d c : ℕ) : Type 0 where
  pub successor : e a c ≡ true
  pub distance : IsDistance e s c d
  pub least : (b : ℕ) → e a b ≡ true → IsDistance e s b d → c ≤ b

-- From a, at distance d from s: a, then the least successor whose distance is one less, and so on;
-- s itself doesn't come.
abbrev pub Descends : (ℕ → ℕ → Bool) → ℕ → ℕ → ℕ → List ℕ → Type 0
Descends e s zero a js = js ≡ []
Descends e s (suc d) a [] = ⊥
Descends e s (suc d) a (j ∷ js) = (j ≡ a) × ((c : ℕ) × IsNext e s a d c × Descends e s d c js)

-- From s the list goes on with the successor at the least distance, the least such, and descends.
pub record IsCycleFrom (e : ℕ → ℕ → Bool) (s : ℕ) (js : List ℕ) : Type 0 where
  pub second : ℕ
  pub distance : ℕ
  pub rest : List ℕ
  pub is : js ≡ s ∷ rest
  pub next : IsNext e s s distance second
  pub nearest : (b d : ℕ) → e s b ≡ true → IsDistance e s b d → distance ≤ d
  pub descent : Descends e s distance second rest

-- the cycle from the least node that returns
pub record IsNamedCycle (e : ℕ → ℕ → Bool) (js : List ℕ) : Type 0 where
  pub start : ℕ
  pub returns : Returns e start
  pub least : (a : ℕ) → Returns e a → start ≤ a
  pub cycle : IsCycleFrom e start js
