-- What a worker adds to the record of a yard that several share.
use Rattle.std.specs.Prelude.{◌≡◌, ℕ, List, [], ◌∷◌, ◌++◌, Result, Ok, Err}
use Rattle.values.specs.Apply.{Apply}
use Rattle.values.specs.declared.memory.Memory.{Memory}
use Rattle.outside.specs.code.Parts.{DraftState, ReadState}
use Rattle.plan_core.specs.declared.plan.Plan.{Plan}
use Rattle.run_record.specs.declared.entry.Cause.{Cause}
use Rattle.run_record.specs.declared.entry.Cause.TheVariants as why
use Rattle.run_record.specs.Events.{Event}
use Rattle.task_work.specs.declared.filling.Filled.{Filled}
use Rattle.site_yard.specs.code.Failures.{RoseBy, tool_faults, tool_faults_of}
use Rattle.site_yard.specs.declared.chronicle.Charter.{Charter}
use Rattle.worker_gate.specs.code.Alone.{IsOver}
use Rattle.worker_gate.specs.code.Tending.{Fills, IsLast}
use Rattle.worker_gate.specs.code.Turning.{NoneOpenBy, NoneOpenFor, plan_of, state_of}

-- what the filling of a task's drafts comes to by a plan; without one memory was wanted
abbrev pub FillsWith : Apply → Result Plan Memory → ℕ → List ReadState → List ReadState → List DraftState
    → List DraftState → ℕ → ℕ → Result Filled Cause → Type 0
FillsWith apply (Ok p) t rs0 rs1 ds0 ds1 before later filled =
    Fills apply p t rs0 rs1 ds0 ds1 before later filled
FillsWith apply (Err refused) t rs0 rs1 ds0 ds1 before later filled = (rs1 ≡ rs0) × (ds1 ≡ ds0)
    × (later ≡ before) × (filled ≡ Err why.Memory)

-- one entry more, by which the worker is done with the task, and which its tool's count shows
pub record DoesOwn (w t : ℕ) (mine after : List Event) (before later : ℕ) : Type 0 where
  pub entry : Event
  pub is : after ≡ mine ++ entry ∷ []
  pub last : IsLast w t entry
  pub counted : RoseBy (tool_faults_of w entry) before later

-- what was added to the worker's own entries, after which no task is open, and which its tool's count shows
pub record WorksOwn (w : ℕ) (mine after : List Event) (before later : ℕ) : Type 0 where
  pub added : List Event
  pub is : after ≡ mine ++ added
  pub none_open : NoneOpenBy after
  pub counted : RoseBy (tool_faults w added) before later

-- A worker has worked until the record that it has seen is over: all tasks have ended and no Fail stands, or one does. No
-- task is open for it, by its own entries too. Its tool's count, which was `before`, shows its new entries' failures.
pub record Works (g : Charter) (w : ℕ) (mine after seen : List Event) (before later : ℕ) : Type 0 where
  pub added : List Event
  pub is : after ≡ mine ++ added
  pub over : IsOver (plan_of g) (state_of g seen)
  pub none_open : NoneOpenFor g w seen
  pub none_open_by : NoneOpenBy after
  pub counted : RoseBy (tool_faults w added) before later
