-- `schedule`: prints the list schedule of the kept jobs, whatever the request chooses sites by. It touches nothing.
use Rattle.std.specs.Prelude.{◌≡◌, ℕ, List, [], Some, None, Ok, Err}
use Rattle.list_schedule.specs.Schedule.{Schedule}
use Rattle.planner.specs.declared.plan_fault.PlanFault.{PlanFault}
use Rattle.planner.specs.declared.plan_fault.PlanFault.TheVariants as plan_faults
use Rattle.planner.specs.declared.surveyed.Surveyed.{Surveyed}
use Rattle.planner.specs.code.Scheduling.{CannotSchedule, IsScheduled, schedule_lines}
use Rattle.plan_run.specs.Moments.{Tools, Work}
use Rattle.pegasus_commands.specs.declared.fault.CallFault.{CallFault}
use Rattle.pegasus_commands.specs.declared.fault.CallFault.TheVariants.{Memory}
use Rattle.pegasus_commands.specs.code.CommandSpec.{CommandSpec}
use Rattle.pegasus_commands.specs.code.Fault.{Answer, plan_answer}
use Rattle.pegasus_commands.specs.code.Survey.{over_survey}

-- a schedule of the kept jobs, and its text
pub record HasSchedule (s : Surveyed) (text : List ℕ) : Type 0 where
  pub schedule : Schedule
  pub scheduled : IsScheduled s.request s.survey schedule
  pub text_is : text ≡ schedule_lines s.survey.workflow schedule

-- this is the answer for the first kept job, by number, without a site
pub record IsUnscheduled (s : Surveyed) (answer : CallFault) : Type 0 where
  pub fault : PlanFault
  pub comes : CannotSchedule s.request s.survey fault
  pub answers : answer ≡ plan_answer fault

-- When each answer comes, and the text before its line.
abbrev pub Says : Surveyed → List ℕ → Answer → Type 0
Says s text (Ok None) = HasSchedule s text
Says s text (Ok (Some given)) = ⊥
Says s text (Err Memory) = Unit {0}
Says s text (Err fault) = IsUnscheduled s fault × (text ≡ [])

-- it changes nothing of the host, and says the schedule
pub record Schedules (w : Work) (t : Tools) (s : Surveyed) (text : List ℕ) (answer : Answer) : Type 0 where
  pub untouched : w.after ≡ w.before
  pub says : Says s text answer

-- no kept job lacks a site
abbrev pub HasSites : Surveyed → Type 0
HasSites s = (fault : PlanFault) → CannotSchedule s.request s.survey fault → fault ≡ plan_faults.Memory

abbrev pub schedule : List ℕ → CommandSpec
schedule name = over_survey name Schedules (λ w s. HasSites s)
