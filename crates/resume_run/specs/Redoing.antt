-- What is added to a record for the tasks that were open when its run stopped.
use Rattle.std.specs.Prelude.{◌≡◌, ◌⊎◌, ℕ, ◌≤◌, Bool, true, false, List, [], ◌∷◌, ◌++◌, length}
use Rattle.plan_core.specs.declared.plan.Plan.{Plan}
use Rattle.run_record.specs.Events.{Event}
use Rattle.lease_rules.specs.code.Reading.{is_fail}
use Rattle.lease_rules.specs.State.{now}
use Rattle.site_yard.specs.code.Failures.{RoseBy, tool_faults, tool_faults_of}
use Rattle.worker_gate.specs.code.Alone.{NoneOpen}
use Rattle.worker_gate.specs.code.Runs.{RunsWithin}
use Rattle.worker_gate.specs.code.Tending.{IsDone}
use Rattle.worker_gate.specs.code.Telling.{IsToldOf}
use Rattle.plan_run.specs.Moments.{MemberMoment, told_of}
use Rattle.plan_run.specs.code.Moments.{count_of, runs_of}
use Rattle.resume_run.specs.declared.lost.Lost.{Lost}

-- one entry for each of the tasks, in order, by which its own worker is done with it; fewer only at the end
abbrev pub AreDone : List Lost → List Event → Type 0
AreDone lost [] = Unit {0}
AreDone [] (e ∷ r) = ⊥
AreDone (l ∷ lost) (e ∷ r) = IsDone l.worker l.task.0 e × AreDone lost r

-- nothing comes after a Fail
abbrev pub EndAtFail : List Event → Type 0
EndAtFail [] = Unit {0}
EndAtFail (e ∷ r) = (is_fail e ≡ true → r ≡ []) × EndAtFail r

-- What is added after a record r for these tasks: all of them are done, and then none is open, or a Fail stands.
pub record Redoes (p : Plan) (order : List ℕ) (r after : List Event) (lost : List Lost) : Type 0 where
  pub added : List Event
  pub is : after ≡ r ++ added
  pub done : AreDone lost added
  pub stops : EndAtFail added
  pub over : NoneOpen (now p order after) ⊎ ((now p order after).failing ≡ true)
  pub all : (now p order after).failing ≡ false → length added ≡ length lost

-- the count of member k's tool has not fallen, and rose by n at least
abbrev pub HasRisen : ℕ → ℕ → List MemberMoment → List MemberMoment → Type 0
HasRisen k n before later = (count_of before k ≤ count_of later k)
    × RoseBy n (count_of before k) (count_of later k)

-- Each member's count shows what is added after a record r: it rose as often, at least, as entries of its worker say.
pub record AddsFaults (r after : List Event) (before later : List MemberMoment) : Type 0 where
  pub added : List Event
  pub is : after ≡ r ++ added
  pub counted : (k : ℕ) → HasRisen k (tool_faults k added) before later

-- Each member's gate was told its worker's entries of what is added after a record r, and nothing else.
abbrev pub AreToldOf : List Event → List Event → List MemberMoment → List MemberMoment → Type 0
AreToldOf r after before later = (k : ℕ) → IsToldOf k r after (told_of before k) (told_of later k)

-- Each member's tool was run no more often than its worker's entries say of what is added after a record r.
abbrev pub AreRunsWithin : Plan → List Event → List Event → List MemberMoment → List MemberMoment → Type 0
AreRunsWithin p r after before later = (k : ℕ) → RunsWithin p k r after (runs_of before k) (runs_of later k)

-- one entry more, by which its own worker is done with a task, and which the members' counts show; whether it is a Fail
pub record RedoesOne (l : Lost) (r after : List Event) (before later : List MemberMoment)
    (fails : Bool) : Type 0 where
  pub entry : Event
  pub is : after ≡ r ++ entry ∷ []
  pub done : IsDone l.worker l.task.0 entry
  pub counted : (k : ℕ) → HasRisen k (tool_faults_of k entry) before later
  pub fails_is : fails ≡ is_fail entry
