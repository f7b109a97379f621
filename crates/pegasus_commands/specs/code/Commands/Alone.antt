-- `alone`: plans, and runs the plan with one worker. It prints the record of the run and what was delivered.
use Rattle.std.specs.Prelude.{◌≡◌, ◌⊎◌, ℕ, List, length, take}
use Rattle.plan_core.specs.Words.{task_numbers}
use Rattle.planner.specs.declared.surveyed.Surveyed.{Surveyed}
use Rattle.worker_gate.specs.code.Alone.{tried}
use Rattle.plan_run.specs.Moments.{Tools, Work}
use Rattle.plan_run.specs.code.Moments.{first_tool}
use Rattle.plan_run.specs.code.Running.{AsksNothingElse, Fresh}
use Rattle.pegasus_commands.specs.code.CommandSpec.{CommandSpec}
use Rattle.pegasus_commands.specs.code.Fault.{Answer}
use Rattle.pegasus_commands.specs.code.PlanRun.{CanRun, HasRunPlan, IsUnrun}
use Rattle.pegasus_commands.specs.code.Survey.{over_survey}

-- A plan was run by the first member of the crew.
pub record HasRunFirst (w : Work) (s : Surveyed) (text : List ℕ) (answer : Answer) : Type 0 where
  pub planned : HasRunPlan w (first_tool w) 1 s text answer
  -- tasks are begun in the kept order, and one that is tried again at once
  pub in_order : tried planned.ran.r ≡ take (length (tried planned.ran.r)) (task_numbers planned.order)
  -- the host was asked for nothing else: each read, draft, publication and removal once
  pub asked : AsksNothingElse w planned.plan Fresh planned.ran.r

abbrev pub RunsAlone : Work → Tools → Surveyed → List ℕ → Answer → Type 0
RunsAlone w t s text answer = IsUnrun w (first_tool w) s text answer ⊎ ∥ HasRunFirst w s text answer ∥₁

abbrev pub alone : List ℕ → CommandSpec
alone name = over_survey name RunsAlone CanRun
