-- The kept jobs in order of (level, number).
use Rattle.std.specs.Prelude.{◌≡◌, ℕ, ◌<◌, ◌||◌, ◌&&◌, Bool, true, false, ltb, eqb, List, [], ◌∷◌, length, get_or}
use Rattle.dependency_graph.specs.Edges.{is_among}
use Rattle.dependency_graph.specs.Levels.{is_kept, level}

-- job b comes before job a
abbrev pub comes_before : List ℕ → ℕ → ℕ → Bool
comes_before levels b a = ltb (level levels b) (level levels a)
    || (eqb (level levels b) (level levels a) && ltb b a)

abbrev pub HasNoRepeats : List ℕ → Type 0
HasNoRepeats [] = Unit {0}
HasNoRepeats (x ∷ xs) = (is_among x xs ≡ false) × HasNoRepeats xs

-- the kept jobs, each once, in their order
pub record IsRanked (kept : List Bool) (levels : List ℕ) (order : List ℕ) : Type 0 where
  pub once : HasNoRepeats order
  pub kept_ones : (a : ℕ) → is_among a order ≡ is_kept kept a
  pub below : (a : ℕ) → is_among a order ≡ true → a < length kept
  pub rising : (i j : ℕ) → i < j → j < length order
      → comes_before levels (get_or order i 0) (get_or order j 0) ≡ true
