-- The level of each kept job: how many kept jobs follow one on the other before it, at most.
use Rattle.std.specs.Prelude.{◌≡◌, ℕ, suc, ◌<◌, Bool, false, max, List, [], ◌∷◌, length, if◌then◌else◌, slice_index_or}
use Rattle.values.specs.declared.numbers.JobId.{JobId}
use Rattle.dependency_graph.specs.Graph.{Links, jobs_at}

-- what a list with a value for each job says of one
abbrev pub is_kept : List Bool → ℕ → Bool
is_kept kept a = slice_index_or kept a false

abbrev pub level : List ℕ → ℕ → ℕ
level levels a = slice_index_or levels a 0

-- one more than the level of a kept job, 0 for a dropped one
abbrev pub above : List Bool → List ℕ → ℕ → ℕ
above kept levels a = if is_kept kept a then suc (level levels a) else 0

-- the greatest of this over some jobs
abbrev pub above_all : List Bool → List ℕ → List JobId → ℕ
above_all kept levels [] = 0
above_all kept levels (j ∷ js) = max (above kept levels j.0) (above_all kept levels js)

-- what a job's level has to be by those of its parents
abbrev pub level_by : Links → List Bool → List ℕ → ℕ → ℕ
level_by g kept levels a = if is_kept kept a then above_all kept levels (jobs_at g.parents a) else 0

-- A dropped job has 0. A kept one has 0 where no parent is kept, else one more than its kept parents' greatest.
pub record AreLevels (g : Links) (kept : List Bool) (levels : List ℕ) : Type 0 where
  pub long : length levels ≡ length kept
  pub each : (a : ℕ) → a < length kept → level levels a ≡ level_by g kept levels a
