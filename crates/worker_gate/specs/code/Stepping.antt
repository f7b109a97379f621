-- What one step of a worker adds to a record.
use Rattle.std.specs.Prelude.{◌≡◌, ℕ, ◌<◌, Bool, true, false, List, [], ◌∷◌, ◌++◌, length}
use Rattle.plan_core.specs.declared.plan.Plan.{Plan}
use Rattle.run_record.specs.Events.{Event}
use Rattle.lease_rules.specs.State.{State}
use Rattle.site_yard.specs.code.Failures.{RoseBy, tool_faults, tool_faults_of}
use Rattle.worker_gate.specs.code.Alone.{AllBy, IsOver, NoneOpen, TakeFirst}
use Rattle.worker_gate.specs.code.Tending.{IsDone}

-- one entry of the worker more, by which it is done with the task, and which the tool's count shows
pub record DoesTask (w : ℕ) (r after : List Event) (t before later : ℕ) : Type 0 where
  pub entry : Event
  pub is : after ≡ r ++ entry ∷ []
  pub done : IsDone w t entry
  pub counted : RoseBy (tool_faults_of w entry) before later

-- What is added after a record r, whose state is s: worker 0's entries, each of which begins what is left first. In the
-- state that follows no task is open.
pub record WorksOn (p : Plan) (s : State) (r after : List Event) (next : State)
    (before later : ℕ) : Type 0 where
  pub added : List Event
  pub is : after ≡ r ++ added
  pub by_zero : AllBy 0 added
  pub first : TakeFirst p s added
  pub none_open : NoneOpen next
  pub counted : RoseBy (tool_faults 0 added) before later

-- it adds something, or the record is over
abbrev pub Steps : Plan → State → List Event → List Event → State → ℕ → ℕ → Bool → Type 0
Steps p s r after next before later true = WorksOn p s r after next before later × (length r < length after)
Steps p s r after next before later false = (after ≡ r) × IsOver p s × (later ≡ before)
