-- What a run by several workers comes to that ended Done, in whatever order they worked.
use Rattle.std.specs.Prelude.{◌≡◌, ℕ, ◌+◌, ◌≤◌, ◌<◌, ◌++◌, List, codes, take, Some, None}
use Rattle.std.specs.Io.KnownBytes.{Appends}
use Rattle.values.specs.declared.numbers.TaskId.{TaskId}
use Rattle.plan_core.specs.declared.plan.Plan.{Plan}
use Rattle.plan_core.specs.Words.{task_numbers}
use Rattle.storage_simulation.specs.Goods.{place_bound, places}
use Rattle.storage_simulation.specs.Ordering.{at_start}
use Rattle.storage_simulation.specs.OrderLaw.{stated_order}
use Rattle.planner.specs.declared.surveyed.Surveyed.{Surveyed}
use Rattle.run_record.specs.Events.{Event}
use Rattle.lease_rules.specs.Choice.{Safe}
use Rattle.lease_rules.specs.Law.{reserved_at, stored_at}
use Rattle.lease_rules.specs.Legal.{IsComplete, Legal}
use Rattle.lease_rules.specs.State.{now}
use Rattle.site_yard.specs.Changes.{carries}
use Rattle.site_yard.specs.Faults.{AllBelow}
use Rattle.site_yard.specs.Law.{IsDeliveryOf}
use Rattle.site_yard.specs.Leaving.{left_in}
use Rattle.site_yard.specs.Trace.{trace_of}
use Rattle.worker_gate.specs.Telling.{placed_by}
use Rattle.command_words.specs.Words.{Run, threaded_command}
use Rattle.plan_run.specs.Moments.{Tools, Work, told_of}
use Rattle.plan_run.specs.Running.{AreWithinOutput, IsRunText}
use Rattle.pegasus_commands.specs.PlanRun.{AreHonestIn, AreSet, ShownBy, value_in}
use Rattle.pegasus_commands.specs.Moments.{DocsMoment}
use Rattle.pegasus_cli.specs.Moments.{Call}
use Rattle.pegasus_cli.specs.Plan.{IsStatedPlan}
use Rattle.pegasus_cli.specs.Read.{IsRead}
use Rattle.pegasus_cli.specs.declared.outcome.Outcome.{Outcome}
use Rattle.pegasus_cli.specs.declared.outcome.Outcome.TheVariants.{Done}

-- The run of the survey's plan that ended with `done`: its record, and what was delivered.
pub record Headline (w : Work) (t : Tools) (workers : ℕ) (s : Surveyed) (text : List ℕ) : Type 0 where
  -- the plan and the order that are stated for the documents, and the run's one record
  pub plan : Plan
  pub order : List TaskId
  pub history : List Event
  pub planned : IsStatedPlan s.request s.survey plan
  pub ordered : stated_order plan at_start ≡ Some (task_numbers order)
  -- each entry is allowed after those before it, and by one of the workers; in the end all tasks have ended, and none failed
  pub legal : Legal plan (task_numbers order) history
  pub by_workers : AllBelow workers history
  pub complete : IsComplete plan (now plan (task_numbers order) history)
  -- this record is the one that is printed, with what was delivered
  pub printed : IsRunText w.apply plan history w.before.told text
  -- and each worker's gate was told that worker's entries of it, in the worker's turns, each with its place, and nothing else
  pub told : (k : ℕ) → k < workers → told_of t.after k ≡ told_of t.before k ++ placed_by k 0 history
  -- the host's operations are those that it names, and no others
  pub operations : ShownBy w (λ old new. new.trace ≡ old.trace ++ trace_of plan history)
  -- after every entry each place's reserved and stored bytes are within its bound
  pub within : (k q : ℕ) → q < places plan
      → let held = (now plan (task_numbers order) (take k history)).held in
      stored_at plan held q + reserved_at plan held q ≤ place_bound plan q
  -- so are the bytes delivered so far within the bound of the output, where it has one
  pub output : AreWithinOutput plan history
  -- so are the bytes that the operations so far leave at a site
  pub left : (k q : ℕ) → let held = (now plan (task_numbers order) (take k history)).held in
      left_in plan (trace_of plan (take k history)) q ≤ stored_at plan held q + reserved_at plan held q
  -- and the kept order would finish all remaining tasks within every bound
  pub safe : (k : ℕ) → Safe plan (now plan (task_numbers order) (take k history))
  -- each requested file is delivered as its delivery carries it, and as its value where the replicas are honest; nothing else is
  pub carried : ShownBy w (λ old new. AreSet s
      (IsDeliveryOf plan (carries w.apply plan old)) old.delivered new.delivered)
  pub valued : ShownBy w (λ old new. AreHonestIn w s old
      → AreSet s (λ f content. content ≡ value_in w s old f) old.delivered new.delivered)

-- A run by so many workers that ended Done: of what was read, and of the text that was written before the line of the
-- answer, all this holds.
pub record EndsSo (c : Call) (Read : DocsMoment → DocsMoment → Surveyed → Type 0) (workers : ℕ) : Type 0 where
  pub surveyed : Surveyed
  pub read : Read c.asked.before c.asked.after surveyed
  pub text : List ℕ
  pub written : Appends c.output.before.written c.output.after.written (text ++ codes "done\n")
  pub headline : Headline c.work c.tools workers surveyed text

-- So it is where the words are a run's of a request by so many workers.
abbrev pub HoldsOf : Call → Outcome → Type 0
HoldsOf c outcome = (workers : ℕ) (request : List ℕ)
    → threaded_command c.asked.words ≡ Some (Run request workers) → outcome ≡ Done None
    → ∥ EndsSo c (λ before after. IsRead before.told request) workers ∥₁
