-- Beside `specs/Ranking.antt`: what the code's own contracts say.
use Rattle.std.specs.Prelude.{ℕ, zero, suc, Bool, cond, List, [], ◌∷◌, ◌++◌, map}
use Rattle.dependency_graph.specs.Levels.{is_kept, level}

-- the kept jobs below n by number, each under its level
abbrev pub leveled : List Bool → List ℕ → ℕ → List (ℕ × ℕ)
leveled kept levels zero = []
leveled kept levels (suc n) = leveled kept levels n ++ cond (is_kept kept n) ((level levels n, n) ∷ []) []

abbrev pub numbers_in : List (ℕ × ℕ) → List ℕ
numbers_in ps = map (λ (p : ℕ × ℕ). p.1) ps
