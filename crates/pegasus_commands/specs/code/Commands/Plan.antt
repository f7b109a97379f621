-- `plan`: prints the plan of the documents with its order. It touches nothing.
use Rattle.std.specs.Prelude.{◌≡◌, ◌<◌, ℕ, List, [], get_or, length, Some, None, Ok, Err}
use Rattle.values.specs.declared.numbers.TaskId.{TaskId}
use Rattle.plan_core.specs.declared.plan.Plan.{Plan}
use Rattle.plan_core.specs.code.Printing.{plan_text}
use Rattle.plan_core.specs.Words.{task_numbers}
use Rattle.storage_simulation.specs.code.Ordering.{IsOrder, IsPeak}
use Rattle.storage_simulation.specs.Ordering.{at_start}
use Rattle.planner.specs.code.Planning.{CannotPlan, IsPlanOf}
use Rattle.planner.specs.declared.plan_fault.PlanFault.{PlanFault}
use Rattle.planner.specs.declared.plan_fault.PlanFault.TheVariants as plan_faults
use Rattle.planner.specs.declared.surveyed.Surveyed.{Surveyed}
use Rattle.plan_run.specs.Moments.{Tools, Work}
use Rattle.pegasus_commands.specs.declared.fault.CallFault.{CallFault}
use Rattle.pegasus_commands.specs.declared.fault.CallFault.TheVariants.{Memory}
use Rattle.pegasus_commands.specs.code.CommandSpec.{CommandSpec}
use Rattle.pegasus_commands.specs.code.Fault.{Answer, plan_answer}
use Rattle.pegasus_commands.specs.code.Survey.{over_survey}

-- how many tasks a plan may have
abbrev pub task_limit : ℕ
task_limit = 120000

-- the peaks of the first n sites along the order
pub record ArePeaksOf (p : Plan) (order : List TaskId) (n : ℕ) (peaks : List ℕ) : Type 0 where
  pub long : length peaks ≡ n
  pub each : (s : ℕ) → s < n → ∥ IsPeak p at_start (task_numbers order) s (get_or peaks s 0) ∥₁

abbrev pub ArePeaks : Plan → List TaskId → List ℕ → Type 0
ArePeaks p order peaks = ArePeaksOf p order (length p.sites) peaks

-- the text of a plan with an order and its peaks
pub record IsTextOf (p : Plan) (order : List TaskId) (text : List ℕ) : Type 0 where
  pub peaks : List ℕ
  pub peaks_are : ArePeaks p order peaks
  pub text_is : text ≡ plan_text p order peaks

-- a plan of the documents with its order, and their text
pub record HasPlan (s : Surveyed) (text : List ℕ) : Type 0 where
  pub plan : Plan
  pub order : List TaskId
  pub planned : IsPlanOf s.request s.survey task_limit plan
  pub order_is : IsOrder plan at_start (task_numbers order)
  pub text_is : IsTextOf plan order text

-- this is the answer for planning's first fault
pub record IsUnplanned (s : Surveyed) (answer : CallFault) : Type 0 where
  pub fault : PlanFault
  pub comes : CannotPlan s.request s.survey task_limit fault
  pub answers : answer ≡ plan_answer fault

-- that, or memory ran out
abbrev pub IsRefusal : Surveyed → CallFault → Type 0
IsRefusal s Memory = Unit {0}
IsRefusal s answer = IsUnplanned s answer

-- When each answer comes, and the text before its line.
abbrev pub Says : Surveyed → List ℕ → Answer → Type 0
Says s text (Ok None) = HasPlan s text
Says s text (Ok (Some given)) = ⊥
Says s text (Err Memory) = Unit {0}
Says s text (Err fault) = IsUnplanned s fault × (text ≡ [])

-- it changes nothing of the host, and says the plan and its order
pub record Plans (w : Work) (t : Tools) (s : Surveyed) (text : List ℕ) (answer : Answer) : Type 0 where
  pub untouched : w.after ≡ w.before
  pub says : Says s text answer

-- planning has no fault
abbrev pub HasNoFault : Surveyed → Type 0
HasNoFault s = (fault : PlanFault) → CannotPlan s.request s.survey task_limit fault
    → fault ≡ plan_faults.Memory

abbrev pub plan : List ℕ → CommandSpec
plan name = over_survey name Plans (λ w s. HasNoFault s)
