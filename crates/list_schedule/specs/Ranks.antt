-- Upward ranks, and the order of the kept jobs by them.
use Rattle.std.specs.Prelude.{◌≡◌, ℕ, ◌+◌, ◌<◌, ◌||◌, ◌&&◌, Bool, true, ltb, eqb, max, if◌then◌else◌, List, [], ◌∷◌, length, slice_index_or, get_or}
use Rattle.values.specs.declared.numbers.JobId.{JobId}
use Rattle.dependency_graph.specs.Edges.{is_among}
use Rattle.dependency_graph.specs.Graph.{Links, jobs_at}
use Rattle.dependency_graph.specs.Levels.{is_kept}
use Rattle.dependency_graph.specs.Ranking.{HasNoRepeats}
use Rattle.list_schedule.specs.Estimates.{Estimates, cost}

abbrev pub rank : List ℕ → ℕ → ℕ
rank ranks a = slice_index_or ranks a 0

-- from job a the greatest of a move to one of some kept jobs, with that job's rank; 0 without any
abbrev pub farthest : List Bool → Estimates → List ℕ → ℕ → List JobId → ℕ
farthest kept e ranks a [] = 0
farthest kept e ranks a (c ∷ cs) =
    max (if is_kept kept c.0 then e.move a c.0 + rank ranks c.0 else 0) (farthest kept e ranks a cs)

-- The rank of a kept job is its cost, with the greatest of its moves to kept children and their
-- ranks.
pub record AreRanks (g : Links) (kept : List Bool) (e : Estimates) (ranks : List ℕ) : Type 0 where
  pub long : length ranks ≡ length kept
  pub each : (a : ℕ) → is_kept kept a ≡ true
      → rank ranks a ≡ cost e a + farthest kept e ranks a (jobs_at g.children a)

-- job b comes before job a: its rank is greater, or the same and its number is less
abbrev pub comes_first : List ℕ → ℕ → ℕ → Bool
comes_first ranks b a =
    ltb (rank ranks a) (rank ranks b) || (eqb (rank ranks b) (rank ranks a) && ltb b a)

-- the kept jobs, each once, by falling rank and then by number
pub record IsRankOrder (kept : List Bool) (ranks : List ℕ) (order : List ℕ) : Type 0 where
  pub once : HasNoRepeats order
  pub kept_ones : (a : ℕ) → is_among a order ≡ is_kept kept a
  pub below : (a : ℕ) → is_among a order ≡ true → a < length kept
  pub falling : (i j : ℕ) → i < j → j < length order
      → comes_first ranks (get_or order i 0) (get_or order j 0) ≡ true
