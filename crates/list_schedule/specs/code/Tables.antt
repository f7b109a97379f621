-- Estimates as tables: for each job the sites where it can run, its time at each, and the move from
-- each parent to it.
use Rattle.std.specs.Prelude.{◌≡◌, ℕ, ◌+◌, ◌-◌, ◌^◌, ◌<◌, ◌≤◌, ◌==◌, ◌/◌, true, Bool, max, if◌then◌else◌, List, [], ◌∷◌, length, map, sum}
use Rattle.std.specs.List.{All}
use Rattle.values.specs.declared.numbers.JobId.{JobId}
use Rattle.digraph.specs.Adjacency.{neighbours}
use Rattle.dependency_graph.specs.Graph.{Links, jobs_at}
use Rattle.dependency_graph.specs.Levels.{is_kept}
use Rattle.list_schedule.specs.Estimates.{Estimates, cost}
use Rattle.list_schedule.specs.Ranks.{rank}

abbrev pub moves_to : Estimates → ℕ → List JobId → List ℕ
moves_to e a ps = map (λ (p : JobId). e.move p.0 a) ps

-- the tables of times and of moves say what the estimates say of each kept job
pub record AreCosts (g : Links) (kept : List Bool) (e : Estimates)
    (times moves : List (List ℕ)) : Type 0 where
  pub at_sites : (a : ℕ) → is_kept kept a ≡ true
      → neighbours times a ≡ map (e.time a) (e.candidates a)
  pub from_parents : (a : ℕ) → is_kept kept a ≡ true
      → neighbours moves a ≡ moves_to e a (jobs_at g.parents a)

-- the table of candidates says what the estimates say, each kept job has a candidate, and each
-- costs something
pub record AreCandidates (kept : List Bool) (e : Estimates)
    (candidates : List (List ℕ)) : Type 0 where
  pub same : (a : ℕ) → is_kept kept a ≡ true → neighbours candidates a ≡ e.candidates a
  pub costly : (a : ℕ) → is_kept kept a ≡ true → 1 ≤ cost e a

-- There is a list for each job; a kept job has a time, and a move from each parent.
pub record AreFull (g : Links) (kept : List Bool) (times moves : List (List ℕ)) : Type 0 where
  pub times_long : length times ≡ length kept
  pub moves_long : length moves ≡ length kept
  pub some : (a : ℕ) → is_kept kept a ≡ true → 0 < length (neighbours times a)
  pub one_each : (a : ℕ) → is_kept kept a ≡ true
      → length (neighbours moves a) ≡ length (jobs_at g.parents a)

-- the greatest of the moves beside job a in a list of jobs, and so much more; 0 where it isn't
-- there
abbrev pub reach : List JobId → List ℕ → ℕ → ℕ → ℕ
reach [] ms v a = 0
reach (p ∷ ps) [] v a = 0
reach (p ∷ ps) (m ∷ ms) v a = max (if p.0 == a then m + v else 0) (reach ps ms v a)

-- the rank of job j by what was found after it
abbrev pub rank_by : List (List ℕ) → List ℕ → ℕ → ℕ
rank_by times ranks j = sum (neighbours times j) / length (neighbours times j) + rank ranks j

-- how far each rank is below 2^80
abbrev pub depths : List ℕ → List ℕ
depths ranks = map (λ r. 2 ^ 80 - r) ranks

-- There is a list of sites for each job; a kept job has one, below so many, and a time beside each.
pub record AreSites (kept : List Bool) (count : ℕ) (candidates times : List (List ℕ)) : Type 0 where
  pub long : length candidates ≡ length kept
  pub some : (a : ℕ) → is_kept kept a ≡ true → 0 < length (neighbours candidates a)
  pub below : (a : ℕ) → is_kept kept a ≡ true → All (λ s. s < count) (neighbours candidates a)
  pub one_each : (a : ℕ) → is_kept kept a ≡ true
      → length (neighbours times a) ≡ length (neighbours candidates a)
