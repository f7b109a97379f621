-- The sites of the kept jobs by the request's selector, or the fault of the first one without.
use Rattle.std.specs.Prelude.{◌≡◌, ℕ, Bool, List, Option}
use Rattle.values.specs.declared.numbers.SiteId.{SiteId}
use Rattle.plan_request.specs.declared.request.PlanRequest.{PlanRequest}
use Rattle.plan_request.specs.declared.request.Selector.{Selector}
use Rattle.plan_request.specs.declared.request.Selector.TheVariants.{RoundRobin, Heft}
use Rattle.site_selector.specs.Selecting.{IsSelected, Selection, selection}
use Rattle.list_schedule.specs.Schedule.{IsHeft, Schedule}
use Rattle.heft_selector.specs.Selecting.{estimates}
use Rattle.planner.specs.declared.inputs.Survey.{Survey}

-- ---- by a selector

abbrev pub selection_of : PlanRequest → Survey → List Bool → List ℕ → Selection
selection_of r s kept levels = selection s.workflow kept levels r s.transformations

-- these are the sites of a list schedule of the kept jobs
pub record AreScheduled (r : PlanRequest) (s : Survey) (kept : List Bool)
    (sites : List (Option SiteId)) : Type 0 where
  pub schedule : Schedule
  pub is_heft : IsHeft s.graph kept (estimates s.workflow kept r s.transformations) schedule
  pub sites_are : sites ≡ schedule.sites

-- the sites of the kept jobs: in turns, or those of a list schedule
abbrev pub AreChosen : Selector → PlanRequest → Survey → List Bool → List ℕ → List (Option SiteId)
    → Type 0
AreChosen RoundRobin r s kept levels sites = IsSelected (selection_of r s kept levels) sites
AreChosen Heft r s kept levels sites = AreScheduled r s kept sites
