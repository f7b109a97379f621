-- What each selector's sites come to.
use Rattle.std.proofs.Common.{◌≡◌, ℕ, ◌<◌, true, Bool, List, length, refl, sym, ap, ◌∙◌}
use Rattle.std.specs.Prelude.{Option, Some, slice_get, Vec, Result, Ok, Err}
use Rattle.std.specs.declared.alloc.Global.{Global}
use Rattle.values.specs.declared.numbers.SiteId.{SiteId}
use Rattle.values.specs.declared.select_fault.SelectFault.{SelectFault}
use Rattle.values.specs.declared.select_fault.SelectFault.TheVariants as select
use Rattle.plan_request.specs.declared.request.PlanRequest.{PlanRequest}
use Rattle.plan_request.specs.declared.request.Selector.{Selector}
use Rattle.plan_request.specs.declared.request.Selector.TheVariants as selectors
use Rattle.dependency_graph.specs.Levels.{is_kept}
use Rattle.site_selector.specs.Selecting.{IsSelected, Selection}
use Rattle.site_selector.specs.code.Selecting.{Selects}
use Rattle.list_schedule.specs.declared.heft.Heft.{Heft}
use Rattle.list_schedule.specs.code.Board.{schedule_of}
use Rattle.list_schedule.specs.Schedule.{IsHeft}
use Rattle.heft_selector.specs.Selecting.{estimates}
use Rattle.heft_selector.specs.code.Selecting.{KeptJobsHaveSites, SelectsHeft, SitesAreBelow}
use Rattle.planner.specs.declared.inputs.Survey.{Survey}
use Rattle.planner.specs.Sites.{AreChosen, selection_of}
use Rattle.planner.specs.code.Sites.{AreExecutionSites, Chooses}
use Rattle.planner.specs.code.PlanFault.{select_fault}
use Rattle.planner.specs.code.Scheduling.{AreKeptOf, CannotSchedule, IsScheduled}

pub in_turns : (r : PlanRequest) (s : Survey) (kept : List Bool) (levels : List ℕ)
    (x : Result (Vec (Option SiteId) Global) SelectFault) → Selects (selection_of r s kept levels) x
    → Chooses selectors.RoundRobin r s kept levels x
in_turns r s kept levels (Ok v) h = h
in_turns r s kept levels (Err (select.NoSite a name)) h = h
in_turns r s kept levels (Err (select.NoTransformation a)) h = h
in_turns r s kept levels (Err select.Memory) h = tt

pub not_in_schedule : (r : PlanRequest) (s : Survey) (kept : List Bool) (levels : List ℕ)
    (f : SelectFault) → SelectsHeft s.workflow s.graph kept r s.transformations (Err f)
    → Chooses selectors.Heft r s kept levels (Err f)
not_in_schedule r s kept levels (select.NoSite a name) h = h
not_in_schedule r s kept levels (select.NoTransformation a) h = h
not_in_schedule r s kept levels select.Memory h = tt

pub in_schedule : (r : PlanRequest) (s : Survey) (kept : List Bool) (levels : List ℕ) (h : Heft)
    (v : Vec (Option SiteId) Global) → IsHeft s.graph kept (estimates s.workflow kept r s.transformations) (schedule_of h)
    → v ≡ h.sites → Chooses selectors.Heft r s kept levels (Ok v)
in_schedule r s kept levels h v heft same = record { schedule = schedule_of h; is_heft = heft; sites_are = ap (λ (x : Vec (Option SiteId) Global). x.items) same }

-- the sites of jobs by a selection in turns, and each kept job's
abbrev TurnsAreBelow : Type 0
TurnsAreBelow = (c : Selection) (sites : List (Option SiteId)) → IsSelected c sites
    → (a : ℕ) (s : SiteId) → slice_get sites a ≡ Some (Some s) → s.0 < length c.execute

abbrev KeptJobsHaveTurns : Type 0
KeptJobsHaveTurns = (c : Selection) (sites : List (Option SiteId)) → IsSelected c sites
    → (a : ℕ) → is_kept c.kept a ≡ true → a < length c.jobs
    → (s : SiteId) × (slice_get sites a ≡ Some (Some s))

pub execution_sites : (c : Selector) (r : PlanRequest) (s : Survey) (kept : List Bool)
    (levels : List ℕ) (sites : List (Option SiteId)) → length kept ≡ length s.workflow.jobs
    → AreChosen c r s kept levels sites → TurnsAreBelow → KeptJobsHaveTurns → SitesAreBelow
    → KeptJobsHaveSites → AreExecutionSites r s kept sites
execution_sites selectors.RoundRobin r s kept levels sites long h below turns low has = record {
  long = h.long;
  below = below (selection_of r s kept levels) sites h;
  placed = turns (selection_of r s kept levels) sites h;
}
execution_sites selectors.Heft r s kept levels sites long h below turns low has = record {
  long = ap (λ (xs : List (Option SiteId)). length xs) h.sites_are ∙ h.is_heft.sites ∙ long;
  below = λ a t at. low s.workflow s.graph kept r s.transformations h.schedule h.is_heft a t (sym (same a) ∙ at);
  placed = λ a on less. let found = has s.workflow s.graph kept r s.transformations h.schedule h.is_heft a on in (found.0, same a ∙ found.1);
}
  where
    same : (a : ℕ) → slice_get sites a ≡ slice_get h.schedule.sites a
    same a = ap (λ (xs : List (Option SiteId)). slice_get xs a) h.sites_are

pub scheduled : (r : PlanRequest) (s : Survey) (kept : List Bool) → AreKeptOf r s kept → (h : Heft)
    → IsHeft s.graph kept (estimates s.workflow kept r s.transformations) (schedule_of h)
    → IsScheduled r s (schedule_of h)
scheduled r s kept are_kept h heft = record { kept = kept; are_kept = are_kept; is_heft = heft }

pub unscheduled : (r : PlanRequest) (s : Survey) (kept : List Bool) → AreKeptOf r s kept
    → (f : SelectFault) → SelectsHeft s.workflow s.graph kept r s.transformations (Err f)
    → CannotSchedule r s (select_fault s.workflow f)
unscheduled r s kept are_kept (select.NoSite a name) h = record { kept = kept; are_kept = are_kept; select = select.NoSite a name; first = h; fault_is = refl }
unscheduled r s kept are_kept (select.NoTransformation a) h = record { kept = kept; are_kept = are_kept; select = select.NoTransformation a; first = h; fault_is = refl }
unscheduled r s kept are_kept select.Memory h = tt
