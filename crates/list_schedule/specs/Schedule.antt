-- The list schedule of the kept jobs.
use Rattle.std.specs.Prelude.{◌≡◌, ℕ, ◌+◌, ◌<◌, ◌≤◌, ◌==◌, Bool, false, max, if◌then◌else◌, List, [], ◌∷◌, length, take, get_or, slice_index_or, Option, Some, None}
use Rattle.values.specs.Numbers.{site_id}
use Rattle.values.specs.declared.numbers.JobId.{JobId}
use Rattle.values.specs.declared.numbers.SiteId.{SiteId}
use Rattle.dependency_graph.specs.Graph.{Links, jobs_at, numbers}
use Rattle.dependency_graph.specs.Levels.{is_kept}
use Rattle.list_schedule.specs.Estimates.{Estimates}
use Rattle.list_schedule.specs.Ranks.{AreRanks, IsRankOrder}

-- the site of each job, the jobs in the order in which they are placed, and when each begins and
-- ends, in seconds
pub record Schedule : Type 0 where
  pub sites : List (Option SiteId)
  pub order : List JobId
  pub starts : List ℕ
  pub finishes : List ℕ

abbrev pub site : Schedule → ℕ → Option SiteId
site h a = slice_index_or h.sites a None

abbrev pub start : Schedule → ℕ → ℕ
start h a = slice_index_or h.starts a 0

abbrev pub finish : Schedule → ℕ → ℕ
finish h a = slice_index_or h.finishes a 0

abbrev pub is_site : ℕ → Option SiteId → Bool
is_site s None = false
is_site s (Some t) = t.0 == s

-- the job runs at site s
abbrev pub runs_at : Schedule → ℕ → ℕ → Bool
runs_at h s a = is_site s (site h a)

-- when site s is free after some jobs in order: the finish of the last that runs there, else at
-- first
abbrev pub free_after : Schedule → ℕ → ℕ → List ℕ → ℕ
free_after h s first [] = first
free_after h s first (a ∷ more) = free_after h s (if runs_at h s a then finish h a else first) more

-- when what job a reads of job p is at site s
abbrev pub arrival : List Bool → Estimates → Schedule → ℕ → ℕ → ℕ → ℕ
arrival kept e h a s p =
    if is_kept kept p then finish h p + (if runs_at h s p then 0 else e.move p a) else 0

-- the latest of these, of some jobs
abbrev pub latest : List Bool → Estimates → Schedule → ℕ → ℕ → List JobId → ℕ
latest kept e h a s [] = 0
latest kept e h a s (p ∷ ps) = max (arrival kept e h a s p.0) (latest kept e h a s ps)

-- when job a can begin at site s once these jobs are placed: the site is free, and what its kept
-- parents made is there
abbrev pub earliest_start : Links → List Bool → Estimates → Schedule → List ℕ → ℕ → ℕ → ℕ
earliest_start g kept e h placed a s =
    max (free_after h s 0 placed) (latest kept e h a s (jobs_at g.parents a))

abbrev pub earliest_finish : Links → List Bool → Estimates → Schedule → List ℕ → ℕ → ℕ → ℕ
earliest_finish g kept e h placed a s = earliest_start g kept e h placed a s + e.time a s

-- the candidate at a place of a job's list
abbrev pub candidate : Estimates → ℕ → ℕ → ℕ
candidate e a i = get_or (e.candidates a) i 0

-- Job a is placed after these jobs: at the first of its candidates where it finishes least.
pub record IsPlaced (g : Links) (kept : List Bool) (e : Estimates) (h : Schedule) (placed : List ℕ)
    (a : ℕ) : Type 0 where
  pub choice : ℕ
  pub among : choice < length (e.candidates a)
  pub at : site h a ≡ Some (site_id (candidate e a choice))
  pub begins : start h a ≡ earliest_start g kept e h placed a (candidate e a choice)
  pub ends : finish h a ≡ earliest_finish g kept e h placed a (candidate e a choice)
  pub least : (i : ℕ) → i < length (e.candidates a)
      → finish h a ≤ earliest_finish g kept e h placed a (candidate e a i)
  pub first : (i : ℕ) → i < choice
      → finish h a < earliest_finish g kept e h placed a (candidate e a i)

-- The kept jobs are placed one after the other in their order by rank; a dropped job has no site,
-- and 0 as its start and finish.
pub record IsHeft (g : Links) (kept : List Bool) (e : Estimates) (h : Schedule) : Type 0 where
  pub ranks : List ℕ
  pub are_ranks : AreRanks g kept e ranks
  pub order : IsRankOrder kept ranks (numbers h.order)
  pub sites : length h.sites ≡ length kept
  pub starts : length h.starts ≡ length kept
  pub finishes : length h.finishes ≡ length kept
  pub placed : (i : ℕ) → i < length h.order
      → IsPlaced g kept e h (take i (numbers h.order)) (get_or (numbers h.order) i 0)
  pub no_site : (a : ℕ) → is_kept kept a ≡ false → site h a ≡ None
  pub no_start : (a : ℕ) → is_kept kept a ≡ false → start h a ≡ 0
  pub no_finish : (a : ℕ) → is_kept kept a ≡ false → finish h a ≡ 0
