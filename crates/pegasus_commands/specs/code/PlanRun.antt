-- Beside `specs/PlanRun.antt`: what the code's own contracts say.
use Rattle.std.specs.Prelude.{◌≡◌, ◌⊎◌, ℕ, Bool, true, List, [], Some, None, IfSome, Result, Ok, Err}
use Rattle.std.specs.FinMap as files
use Rattle.values.specs.declared.numbers.TaskId.{TaskId}
use Rattle.outside.specs.declared.store.Store.{Store}
use Rattle.plan_core.specs.declared.plan.Plan.{Plan}
use Rattle.plan_core.specs.code.Proper.{IsProper}
use Rattle.plan_core.specs.Words.{task_numbers}
use Rattle.plan_core.specs.Names.{file_name}
use Rattle.storage_simulation.specs.code.Ordering.{IsOrder}
use Rattle.storage_simulation.specs.Ordering.{at_start}
use Rattle.storage_simulation.specs.declared.ordered.Ordered.{Ordered}
use Rattle.planner.specs.Deliveries.{IsRequested}
use Rattle.planner.specs.code.Planning.{IsPlanOf}
use Rattle.planner.specs.declared.plan_fault.PlanFault.{PlanFault}
use Rattle.planner.specs.declared.surveyed.Surveyed.{Surveyed}
use Rattle.run_record.specs.Events.{Event}
use Rattle.site_yard.specs.Changes.{carries}
use Rattle.site_yard.specs.Law.{IsDeliveryOf}
use Rattle.site_yard.specs.code.Places.{is_delivered}
use Rattle.plan_run.specs.code.Finishing.{CanEnd}
use Rattle.plan_run.specs.Moments.{Tools, Work}
use Rattle.plan_run.specs.code.Running.{End, HasRun, Report}
use Rattle.pegasus_commands.specs.declared.fault.CallFault.{CallFault}
use Rattle.pegasus_commands.specs.declared.fault.CallFault.TheVariants.{Memory, Refused}
use Rattle.pegasus_commands.specs.code.Commands.Plan.{HasNoFault, IsUnplanned, task_limit}
use Rattle.pegasus_commands.specs.code.Fault.{Answer, end_answer, not_for}
use Rattle.pegasus_commands.specs.code.KeptTools.{unknown_tool}
use Rattle.pegasus_commands.specs.PlanRun.{lfn, AreHonestIn, value_in}

-- Whatever the answer, each newly delivered file is a requested one under its name, and holds what its delivery carries,
-- so its value where the replicas are honest; every other name is as it was.
pub record DeliversRequested (w : Work) (s : Surveyed) (p : Plan) (r : List Event)
    (m new : Store) : Type 0 where
  pub requested : (f : ℕ) → is_delivered p r f ≡ true
      → IsRequested s.survey f × (file_name p f ≡ lfn s.survey f)
  pub carried : (f : ℕ) → is_delivered p r f ≡ true
      → IsDeliveryOf p (carries w.apply p m) f (files.get new.delivered (lfn s.survey f))
  pub valued : AreHonestIn w s m → (f : ℕ) → is_delivered p r f ≡ true
      → files.get new.delivered (lfn s.survey f) ≡ value_in w s m f
  pub others : (name : List ℕ) → ((f : ℕ) → is_delivered p r f ≡ true → lfn s.survey f ≡ name → ⊥)
      → files.get new.delivered name ≡ files.get m.delivered name

-- Each requested file is delivered.
abbrev pub AllDelivered : Surveyed → Plan → List Event → Answer → Type 0
AllDelivered s p r (Ok None) = (f : ℕ) → IsRequested s.survey f → is_delivered p r f ≡ true
AllDelivered s p r _ = Unit {0}

-- A plan of the documents with its order, all of whose tools are known.
pub record IsReady (known : List ℕ → Bool) (s : Surveyed) (p : Plan) (order : List TaskId) : Type 0 where
  pub planned : IsPlanOf s.request s.survey task_limit p
  pub order_is : IsOrder p at_start (task_numbers order)
  pub proper : IsProper p
  pub policy : p.policy ≡ s.request.policy
  pub tools : unknown_tool known p.jobs ≡ None

-- It was run by n workers, and this is the record that it hands out.
pub record HasRunPlan (w : Work) (t : Tools) (n : ℕ) (s : Surveyed) (text : List ℕ)
    (answer : Answer) : Type 0 where
  pub plan : Plan
  pub order : List TaskId
  pub ready : IsReady w.known s plan order
  pub end : End
  pub report : Report
  pub ran : HasRun w t n plan (task_numbers order) report end
  pub text_is : text ≡ report.text
  pub answers : answer ≡ end_answer end
  pub delivers : IfSome w.before.told (λ m. IfSome w.after.told
      (λ new. DeliversRequested w s plan ran.r m new))
  pub complete : AllDelivered s plan ran.r answer

-- This is the answer for the first kept job whose tool isn't known.
pub record LacksTool (known : List ℕ → Bool) (s : Surveyed) (answer : CallFault) : Type 0 where
  pub plan : Plan
  pub order : List TaskId
  pub planned : IsPlanOf s.request s.survey task_limit plan
  pub order_is : IsOrder plan at_start (task_numbers order)
  pub fault : PlanFault
  pub first : unknown_tool known plan.jobs ≡ Some fault
  pub answers : answer ≡ Refused fault

-- This is the answer for planning's first fault, or for a tool that isn't known, or memory ran out.
abbrev pub RefusedAs : (List ℕ → Bool) → Surveyed → CallFault → Type 0
RefusedAs known s Memory = Unit {0}
RefusedAs known s answer = IsUnplanned s answer ⊎ LacksTool known s answer

-- a plan that can be run, or why there is none
abbrev pub Readies : (List ℕ → Bool) → Surveyed → Result Ordered CallFault → Type 0
Readies known s (Ok o) = IsReady known s o.plan o.tasks.items
Readies known s (Err answer) = RefusedAs known s answer

-- Nothing was done, for this reason.
pub record IsUndone (Refuses : CallFault → Type 0) (w : Work) (t : Tools) (text : List ℕ)
    (answer : Answer) : Type 0 where
  pub fault : CallFault
  pub refused : Refuses fault
  pub answers : answer ≡ not_for fault
  pub untouched : w.after ≡ w.before
  pub unused : t.after ≡ t.before
  pub no_text : text ≡ []

-- Nothing was run.
abbrev pub IsUnrun : Work → Tools → Surveyed → List ℕ → Answer → Type 0
IsUnrun w t s text answer = IsUndone (RefusedAs w.known s) w t text answer

-- Nothing that a plan asks for is missing: its kept jobs' tools are known, the host tells that its sites are empty, and
-- all that its tasks carry is there and fits.
pub record CanRunPlan (w : Work) (p : Plan) : Type 0 where
  pub tools : unknown_tool w.known p.jobs ≡ None
  pub ends : CanEnd w p

-- Planning has no fault, and its plan can be run.
pub record CanRun (w : Work) (s : Surveyed) : Type 0 where
  pub no_fault : HasNoFault s
  pub plan : (p : Plan) → IsPlanOf s.request s.survey task_limit p → CanRunPlan w p
