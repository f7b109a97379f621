-- Beside `specs/Selecting.antt`: what the code's own contracts say.
use Rattle.std.specs.Prelude.{◌≡◌, ℕ, ◌<◌, Bool, true, List, length, slice_get, Some, Result, Ok, Err}
use Rattle.values.specs.declared.numbers.SiteId.{SiteId}
use Rattle.values.specs.declared.select_fault.SelectFault.{SelectFault}
use Rattle.values.specs.declared.select_fault.SelectFault.TheVariants.{NoSite, NoTransformation, Memory}
use Rattle.workflow_core.specs.declared.workflow.Workflow.{Workflow}
use Rattle.transformation_catalog.specs.declared.catalog.TransformationCatalog.{TransformationCatalog}
use Rattle.plan_request.specs.declared.request.PlanRequest.{PlanRequest}
use Rattle.dependency_graph.specs.Graph.{Links}
use Rattle.dependency_graph.specs.Levels.{is_kept}
use Rattle.list_schedule.specs.declared.heft.Heft.{Heft}
use Rattle.list_schedule.specs.Schedule.{Schedule, IsHeft}
use Rattle.list_schedule.specs.code.Board.{schedule_of}
use Rattle.heft_selector.specs.code.Candidates.{IsFirstFault}
use Rattle.heft_selector.specs.Selecting.{offering_of, estimates}

-- The schedule, or the first fault. Want of memory is free.
abbrev pub SelectsHeft : Workflow → Links → List Bool → PlanRequest → TransformationCatalog
    → Result Heft SelectFault → Type 0
SelectsHeft w g kept r t (Ok h) = IsHeft g kept (estimates w kept r t) (schedule_of h)
SelectsHeft w g kept r t (Err Memory) = Unit {0}
SelectsHeft w g kept r t (Err (NoSite a name)) =
    IsFirstFault (offering_of w kept r t) (NoSite a name)
SelectsHeft w g kept r t (Err (NoTransformation a)) =
    IsFirstFault (offering_of w kept r t) (NoTransformation a)

-- the sites of a schedule are execution sites
abbrev pub SitesAreBelow : Type 0
SitesAreBelow =
    (w : Workflow) (g : Links) (kept : List Bool) (r : PlanRequest) (t : TransformationCatalog)
    (h : Schedule) → IsHeft g kept (estimates w kept r t) h
    → (a : ℕ) (s : SiteId) → slice_get h.sites a ≡ Some (Some s) → s.0 < length r.execute

-- each kept job has one
abbrev pub KeptJobsHaveSites : Type 0
KeptJobsHaveSites =
    (w : Workflow) (g : Links) (kept : List Bool) (r : PlanRequest) (t : TransformationCatalog)
    (h : Schedule) → IsHeft g kept (estimates w kept r t) h
    → (a : ℕ) → is_kept kept a ≡ true → (s : SiteId) × (slice_get h.sites a ≡ Some (Some s))
