-- The list schedule of the kept jobs, or the fault of the first one without a site; its text.
use Rattle.std.specs.Prelude.{◌≡◌, ℕ, Bool, List, [], ◌∷◌, codes, Option, Some, None, Result, Ok, Err}
use Rattle.std.specs.Fmt.{decimal}
use Rattle.std.specs.List.{flat_map}
use Rattle.values.specs.Printed.{printed_name}
use Rattle.values.specs.declared.numbers.SiteId.{SiteId}
use Rattle.values.specs.declared.select_fault.SelectFault.{SelectFault}
use Rattle.workflow_core.specs.declared.workflow.Workflow.{Workflow}
use Rattle.plan_request.specs.declared.request.PlanRequest.{PlanRequest}
use Rattle.dependency_graph.specs.code.Built.{id_of}
use Rattle.dependency_graph.specs.Graph.{numbers}
use Rattle.data_reuse.specs.Kept.{AreKept}
use Rattle.data_reuse.specs.Absent.{absent_in}
use Rattle.list_schedule.specs.declared.heft.Heft.{Heft}
use Rattle.list_schedule.specs.code.Board.{schedule_of}
use Rattle.list_schedule.specs.Schedule.{IsHeft, Schedule, finish, site, start}
use Rattle.heft_selector.specs.code.Candidates.{IsFirstFault}
use Rattle.heft_selector.specs.Selecting.{estimates, offering_of}
use Rattle.plan_core.specs.code.Printing.{row}
use Rattle.planner.specs.declared.inputs.Survey.{Survey}
use Rattle.planner.specs.declared.plan_fault.PlanFault.{PlanFault}
use Rattle.planner.specs.declared.plan_fault.PlanFault.TheVariants as plan
use Rattle.planner.specs.code.PlanFault.{select_fault}

-- ---- the schedule

abbrev pub AreKeptOf : PlanRequest → Survey → List Bool → Type 0
AreKeptOf r s kept = AreKept (absent_in s.workflow s.replicas.entries r.force) s.workflow kept

-- a list schedule of the kept jobs
pub record IsScheduled (r : PlanRequest) (s : Survey) (h : Schedule) : Type 0 where
  pub kept : List Bool
  pub are_kept : AreKeptOf r s kept
  pub is_heft : IsHeft s.graph kept (estimates s.workflow kept r s.transformations) h

-- the fault is that of the first kept job, by number, without a site
pub record IsUnscheduled (r : PlanRequest) (s : Survey) (fault : PlanFault) : Type 0 where
  pub kept : List Bool
  pub are_kept : AreKeptOf r s kept
  pub select : SelectFault
  pub first : IsFirstFault (offering_of s.workflow kept r s.transformations) select
  pub fault_is : fault ≡ select_fault s.workflow select

-- when each fault comes; want of memory is free
abbrev pub CannotSchedule : PlanRequest → Survey → PlanFault → Type 0
CannotSchedule r s plan.Memory = Unit {0}
CannotSchedule r s fault = IsUnscheduled r s fault

abbrev pub Schedules : PlanRequest → Survey → Result Heft PlanFault → Type 0
Schedules r s (Ok h) = IsScheduled r s (schedule_of h)
Schedules r s (Err fault) = CannotSchedule r s fault

-- ---- its text

abbrev pub site_number : Option SiteId → ℕ
site_number None = 0
site_number (Some s) = s.0

-- a line of a job's number and id, the number of its site, and when it begins and ends, as digits
unfoldable pub job_row : ℕ → List ℕ → ℕ → List ℕ → List ℕ → List ℕ
job_row a id s begins ends =
    row (codes "job" ∷ decimal a ∷ printed_name id ∷ codes "site" ∷ decimal s ∷ begins ∷ ends ∷ [])

-- the line of a job
abbrev pub schedule_line : Workflow → Schedule → ℕ → List ℕ
schedule_line w h a =
    job_row a (id_of w a) (site_number (site h a)) (decimal (start h a)) (decimal (finish h a))

-- a line for each job, in the order in which they are placed
abbrev pub schedule_lines : Workflow → Schedule → List ℕ
schedule_lines w h = flat_map (schedule_line w h) (numbers h.order)
