-- Beside `specs/Sites.antt`: what the code's own contracts say.
use Rattle.std.specs.Prelude.{◌≡◌, ◌<◌, ℕ, Bool, true, List, length, slice_get, Vec, Option, Some, Result, Ok, Err}
use Rattle.std.specs.declared.alloc.Global.{Global}
use Rattle.values.specs.declared.numbers.SiteId.{SiteId}
use Rattle.values.specs.declared.select_fault.SelectFault.{SelectFault}
use Rattle.values.specs.declared.select_fault.SelectFault.TheVariants.{NoSite, NoTransformation, Memory}
use Rattle.plan_request.specs.declared.request.PlanRequest.{PlanRequest}
use Rattle.plan_request.specs.declared.request.Selector.{Selector}
use Rattle.plan_request.specs.declared.request.Selector.TheVariants.{RoundRobin, Heft}
use Rattle.dependency_graph.specs.Levels.{AreLevels, is_kept}
use Rattle.data_reuse.specs.Kept.{AreKept}
use Rattle.data_reuse.specs.Absent.{absent_in}
use Rattle.site_selector.specs.code.Selecting.{IsFirstFault}
use Rattle.heft_selector.specs.code.Candidates.{IsFirstFault as IsFirstByNumber}
use Rattle.heft_selector.specs.Selecting.{offering_of}
use Rattle.planner.specs.declared.inputs.Survey.{Survey}
use Rattle.planner.specs.declared.plan_fault.PlanFault.{PlanFault}
use Rattle.planner.specs.code.PlanFault.{select_fault}
use Rattle.planner.specs.Sites.{selection_of, AreChosen}

-- These jobs are kept, and these are their levels.
pub record AreLeveled (r : PlanRequest) (s : Survey) (kept : List Bool)
    (levels : List ℕ) : Type 0 where
  pub are_kept : AreKept (absent_in s.workflow s.replicas.entries r.force) s.workflow kept
  pub are_levels : AreLevels s.graph kept levels

-- the first kept job without a site: in turns by level and number, in a schedule by number alone
abbrev pub IsFirstWithout : Selector → PlanRequest → Survey → List Bool → List ℕ → SelectFault
    → Type 0
IsFirstWithout RoundRobin r s kept levels fault = IsFirstFault (selection_of r s kept levels) fault
IsFirstWithout Heft r s kept levels fault =
    IsFirstByNumber (offering_of s.workflow kept r s.transformations) fault

-- ---- by the request's selector

-- these are the sites of the kept jobs
abbrev pub AreSelected : PlanRequest → Survey → List Bool → List ℕ → List (Option SiteId) → Type 0
AreSelected r s kept levels sites = AreChosen r.selector r s kept levels sites

-- the fault is that of the first kept job without a site
pub record IsUnplaced (r : PlanRequest) (s : Survey) (fault : PlanFault) : Type 0 where
  pub kept : List Bool
  pub levels : List ℕ
  pub leveled : AreLeveled r s kept levels
  pub select : SelectFault
  pub first : IsFirstWithout r.selector r s kept levels select
  pub fault_is : fault ≡ select_fault s.workflow select

-- the sites, or that fault; want of memory is free
abbrev pub Chooses : Selector → PlanRequest → Survey → List Bool → List ℕ
    → Result (Vec (Option SiteId) Global) SelectFault → Type 0
Chooses c r s kept levels (Ok v) = AreChosen c r s kept levels v.items
Chooses c r s kept levels (Err Memory) = Unit {0}
Chooses c r s kept levels (Err (NoSite a name)) =
    IsFirstWithout c r s kept levels (NoSite a name)
Chooses c r s kept levels (Err (NoTransformation a)) =
    IsFirstWithout c r s kept levels (NoTransformation a)

-- ---- what a plan asks of sites

-- There is a place for each job, a kept job has a site, and sites are execution sites.
pub record AreExecutionSites (r : PlanRequest) (s : Survey) (kept : List Bool)
    (sites : List (Option SiteId)) : Type 0 where
  pub long : length sites ≡ length s.workflow.jobs
  pub below : (a : ℕ) (t : SiteId) → slice_get sites a ≡ Some (Some t) → t.0 < length r.execute
  pub placed : (a : ℕ) → is_kept kept a ≡ true → a < length s.workflow.jobs
      → (t : SiteId) × (slice_get sites a ≡ Some (Some t))
