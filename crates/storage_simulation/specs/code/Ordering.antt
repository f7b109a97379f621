-- Beside `specs/Ordering.antt`: what the code's own contracts say.
use Rattle.std.specs.Prelude.{◌≡◌, ℕ, ◌+◌, ◌≤◌, ◌<◌, ◌⊎◌, true, false, List, [], ◌∷◌, ◌++◌, length, take, get_or, Some}
use Rattle.plan_core.specs.declared.plan.Plan.{Plan}
use Rattle.plan_core.specs.Words.{count_tasks, is_clean}
use Rattle.storage_simulation.specs.declared.standing.Standing.{Standing}
use Rattle.storage_simulation.specs.declared.fitting.Exceeds.{Exceeds}
use Rattle.storage_simulation.specs.code.Goods.{place}
use Rattle.storage_simulation.specs.Goods.{place_bound}
use Rattle.storage_simulation.specs.code.Standings.{held_of, phase_of}
use Rattle.storage_simulation.specs.Usage.{usage, IsWithin}
use Rattle.storage_simulation.specs.Following.{is_ready}
use Rattle.storage_simulation.specs.Ordering.{Progress, size, is_done, comes, goes}

abbrev pub progress : Standing → Progress
progress st = record { phase = phase_of st; held = held_of st }

-- a ready task that isn't placed yet
pub record IsOpen (p : Plan) (st : Progress) (front : List ℕ) (t : ℕ) : Type 0 where
  pub in_range : t < count_tasks p
  pub waits : is_done st front t ≡ false
  pub ready : is_ready p st.phase front t ≡ true

-- each place's usage is within its bound once the task is placed
abbrev pub IsFitting : Plan → Progress → List ℕ → ℕ → Type 0
IsFitting p st front t = IsWithin p (size st) (front ++ t ∷ [])

-- the score is less than another's, or equal and the number isn't greater
abbrev pub IsBefore : Plan → Progress → List ℕ → ℕ → ℕ → Type 0
IsBefore p st front t u = (comes p st t + goes p st front u < comes p st u + goes p st front t)
    ⊎ ((comes p st t + goes p st front u ≡ comes p st u + goes p st front t) × (t ≤ u))

-- the lowest ready Clean
pub record IsLowestClean (p : Plan) (st : Progress) (front : List ℕ) (t : ℕ) : Type 0 where
  pub opens : IsOpen p st front t
  pub clean : is_clean p t ≡ true
  pub lowest : (u : ℕ) → u < t → IsOpen p st front u → is_clean p u ≡ false

-- No Clean is ready, and of the ready tasks that fit this is the one of least score, then of least number.
pub record IsLeast (p : Plan) (st : Progress) (front : List ℕ) (t : ℕ) : Type 0 where
  pub no_clean : (u : ℕ) → IsOpen p st front u → is_clean p u ≡ false
  pub opens : IsOpen p st front t
  pub fits : IsFitting p st front t
  pub least : (u : ℕ) → IsOpen p st front u → IsFitting p st front u → IsBefore p st front t u

-- the task is placed next
abbrev pub IsStep : Plan → Progress → List ℕ → ℕ → Type 0
IsStep p st front t = IsLowestClean p st front t ⊎ IsLeast p st front t

abbrev pub AreSteps : Plan → Progress → List ℕ → Type 0
AreSteps p st ts = (k : ℕ) → k < length ts → IsStep p st (take k ts) (get_or ts k 0)

-- Order: each step is right, and no task is left.
pub record IsOrder (p : Plan) (st : Progress) (ts : List ℕ) : Type 0 where
  pub steps : AreSteps p st ts
  pub all : (t : ℕ) → t < count_tasks p → is_done st ts t ≡ true

-- Tasks are ready and none of them fits; this is the lowest one, with its place.
pub record IsStuck (p : Plan) (st : Progress) (front : List ℕ) (e : Exceeds) : Type 0 where
  pub opens : IsOpen p st front e.task.0
  pub lowest : (u : ℕ) → u < e.task.0 → IsOpen p st front u → ⊥
  pub no_clean : (u : ℕ) → IsOpen p st front u → is_clean p u ≡ false
  pub none_fits : (u : ℕ) → IsOpen p st front u → IsFitting p st front u → ⊥
  pub site_is : place p e.task.0 ≡ Some e.site.0
  pub needed_is : e.needed ≡ usage p (size st) (front ++ e.task.0 ∷ []) e.site.0
  pub bound_is : e.bound ≡ place_bound p e.site.0

-- Order is Exceeds: after some steps no ready task fits.
pub record IsExceeds (p : Plan) (st : Progress) (e : Exceeds) : Type 0 where
  pub front : List ℕ
  pub steps : AreSteps p st front
  pub stuck : IsStuck p st front e

-- the greatest usage of a place, before the first task and after each
pub record IsPeak (p : Plan) (st : Progress) (ts : List ℕ) (s n : ℕ) : Type 0 where
  pub most : (k : ℕ) → k ≤ length ts → usage p (size st) (take k ts) s ≤ n
  pub reached : (k : ℕ) × (k ≤ length ts) × (usage p (size st) (take k ts) s ≡ n)
