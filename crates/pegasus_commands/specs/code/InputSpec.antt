-- What a command takes of its documents: when they end it, and when it goes on.
use Rattle.std.specs.Prelude.{◌≡◌, ◌⊎◌, ℕ, List, Option, Some, Result, Ok, Err}
use Rattle.values.specs.FileMap.{Files}
use Rattle.workflow_core.specs.View.{workflow_view}
use Rattle.workflow_core.specs.declared.workflow.Workflow.{Workflow}
use Rattle.dependency_graph.specs.Graph.{IsSound}
use Rattle.planner.specs.code.Course.{Refuses, SurveyEntry, surveyed}
use Rattle.planner.specs.declared.plan_fault.PlanFault.{PlanFault}
use Rattle.plan_run.specs.Moments.{Tools, Work}
use Rattle.pegasus_commands.specs.declared.course.Requested.{Requested}
use Rattle.pegasus_commands.specs.declared.fault.CallFault.{CallFault}
use Rattle.pegasus_commands.specs.code.CommandSpec.{CommandSpec}
use Rattle.pegasus_commands.specs.code.Course.{Course, IsStep, read_from}
use Rattle.pegasus_commands.specs.code.Fault.{Answer, plan_answer}
use Rattle.pegasus_commands.specs.Moments.{DocsMoment}

-- The documents that a command asks for, and what it goes on with.
pub record InputSpec : Type 1 where
  -- what the documents give, which come in this course
  pub Given : Type 0
  pub course : Course Given
  -- the request in it, with the documents that it names
  pub requested : Given → Requested
  -- what the command goes on with
  pub Inputs : Type 0
  pub Makes : Given → Inputs → Type 0

-- What was asked for came, and planning refuses it with this fault.
pub record IsUnsurveyed (k : InputSpec) (before after : DocsMoment) (e : CallFault) : Type 0 where
  pub given : k.Given
  pub came : IsStep k.course before after (Ok given)
  pub fault : PlanFault
  pub refuses : Refuses (k.requested given).request (k.requested given).documents fault
  pub answers : e ≡ plan_answer fault

-- The documents end the command: one of them could not be had or is no request, or planning refuses them.
abbrev pub Stops : InputSpec → DocsMoment → DocsMoment → CallFault → Type 0
Stops k before after e = IsStep k.course before after (Err e) ⊎ IsUnsurveyed k before after e

-- All documents came, and the command goes on with what it made of them.
pub record GoesOn (k : InputSpec) (before after : DocsMoment) (i : k.Inputs) : Type 0 where
  pub given : k.Given
  pub came : IsStep k.course before after (Ok given)
  pub makes : k.Makes given i

abbrev pub Comes : (k : InputSpec) → DocsMoment → DocsMoment → Result k.Inputs CallFault → Type 0
Comes k before after (Ok i) = GoesOn k before after i
Comes k before after (Err e) = Stops k before after e

-- Told documents go on with a sound workflow, and nothing in them keeps the command from Done.
pub record MayGoOn (k : InputSpec) (CanWork : Work → k.Inputs → Type 0) (told : Option Files)
    (w : Work) : Type 0 where
  pub files : Files
  pub told_is : told ≡ Some files
  pub given : k.Given
  pub reads : read_from files k.course ≡ Ok given
  pub said : SurveyEntry
  pub says : surveyed (k.requested given).request (k.requested given).documents ≡ Ok said
  pub sound : (x : Workflow) → workflow_view x ≡ said.workflow → IsSound x
  pub can_work : (i : k.Inputs) → k.Makes given i → CanWork w i

-- a command over such documents
abbrev pub over : (k : InputSpec) → (Work → Tools → k.Inputs → List ℕ → Answer → Type 0)
    → (Work → k.Inputs → Type 0) → CommandSpec
over k Works CanWork = record {
  Inputs = k.Inputs;
  Comes = Comes k;
  Works = Works;
  CanFinish = MayGoOn k CanWork;
}
