-- What a worker does for a task at a yard, whoever works there besides.
use Rattle.std.specs.Prelude.{◌≡◌, ℕ, ◌+◌, ◌≤◌, true, List, [], ◌∷◌, ◌++◌, map, Option, Some, None, IfErr, IfOk, IfSome, is_some, Result, Ok, Err}
use Rattle.values.specs.Apply.{Apply}
use Rattle.outside.specs.code.Parts.{DraftState, ReadState, part_faults}
use Rattle.outside.specs.declared.store.Store.{Store}
use Rattle.plan_core.specs.declared.plan.Plan.{Plan}
use Rattle.plan_core.specs.declared.plan.Source.TheVariants.{Pfn}
use Rattle.plan_core.specs.declared.plan.TaskKind.{TaskKind}
use Rattle.plan_core.specs.declared.plan.TaskKind.TheVariants.{Run, Transfer}
use Rattle.plan_core.specs.Words.{declared, kind, reads}
use Rattle.storage_simulation.specs.Goods.{or_zero}
use Rattle.run_record.specs.declared.entry.Cause.{Cause}
use Rattle.run_record.specs.Events.{Event, Arrive, End, Clean, Fail, Again}
use Rattle.lease_rules.specs.Legal.{CauseFits}
use Rattle.lease_rules.specs.code.Storing.{pair_limit}
use Rattle.task_work.specs.Filling.{HasFilled, IsWhy}
use Rattle.task_work.specs.Making.{Each, IsShown, blames}
use Rattle.task_work.specs.Pieces.{IsSteadyDraft, IsSteadyReading}
use Rattle.task_work.specs.declared.filling.Filled.{Filled}
use Rattle.task_work.specs.declared.filling.Filled.TheVariants.{Moved, Made}
use Rattle.site_yard.specs.Changes.{carries}
use Rattle.site_yard.specs.code.Failures.{tool_fault_in, tool_faults_of}
use Rattle.site_yard.specs.code.Kept.{IsOpening}
use Rattle.site_yard.specs.code.Loan.{CanSettle, IsLoan, fresh_at, inputs, read_told, targets}
use Rattle.site_yard.specs.code.Yard.{IsBehind, IsTold, IsWorkers}

-- an entry by which a worker is done with a task
abbrev pub IsLast : ℕ → ℕ → Event → Type 0
IsLast w t (Arrive v u n) = (v ≡ w) × (u ≡ t)
IsLast w t (End v u ns) = (v ≡ w) × (u ≡ t)
IsLast w t (Clean v u) = (v ≡ w) × (u ≡ t)
IsLast w t (Fail v u c ns) = (v ≡ w) × (u ≡ t)
IsLast w t (Again v u c ns) = (v ≡ w) × (u ≡ t)
IsLast w t _ = ⊥

-- one such entry more, in which a tool failed n times
pub record Finishes (w t n : ℕ) (r after : List Event) : Type 0 where
  pub entry : Event
  pub is : after ≡ r ++ entry ∷ []
  pub last : IsLast w t entry
  pub failures : tool_faults_of w entry ≡ n

-- a worker's entry after the grant of a task
abbrev pub IsDone : ℕ → ℕ → Event → Type 0
IsDone w t (Arrive v u n) = (v ≡ w) × (u ≡ t)
IsDone w t (End v u ns) = (v ≡ w) × (u ≡ t)
IsDone w t (Fail v u c ns) = (v ≡ w) × (u ≡ t)
IsDone w t (Again v u c ns) = (v ≡ w) × (u ≡ t)
IsDone w t _ = ⊥

-- one such entry more, in which a tool failed n times
pub record EndsTask (w t n : ℕ) (r after : List Event) : Type 0 where
  pub entry : Event
  pub is : after ≡ r ++ entry ∷ []
  pub done : IsDone w t entry
  pub failures : tool_faults_of w entry ≡ n

-- a task that has a loan: a Transfer or a Run
abbrev pub HasLoan : Option TaskKind → Type 0
HasLoan (Some (Transfer f from to)) = Unit {0}
HasLoan (Some (Run s js)) = Unit {0}
HasLoan _ = ⊥

-- the declared size of each file that is read
abbrev pub limits_in : Plan → Option TaskKind → List ℕ → List ℕ
limits_in p (Some (Transfer f (Pfn x) to)) qs = or_zero (declared p f.0) ∷ []
limits_in p _ qs = map (pair_limit p) qs

-- a reading that gave nothing yet, no longer than declared; it tells where the host does
pub record IsUnread (told : Option Store) (limit : ℕ) (s : ReadState) : Type 0 where
  pub given : s.given ≡ 0
  pub faults : s.faults ≡ 0
  pub within : s.size ≤ limit
  pub tells : IfSome told (λ z. is_some s.told ≡ true)

abbrev pub AreUnread : Option Store → List ℕ → List ReadState → Type 0
AreUnread told [] [] = Unit {0}
AreUnread told (n ∷ ns) (s ∷ ss) = IsUnread told n s × AreUnread told ns ss
AreUnread told _ _ = ⊥

-- What a worker knows of a loan that is out. `told` is used by its case alone, so it may be the charter's; nothing is said
-- of the yard as it is now, so no turn of another worker changes it.
pub record IsHeld (apply : Apply) (p : Plan) (first : List Event) (marked : Store) (told : Option Store)
    (t : ℕ) (rs : List ReadState) (ds : List DraftState) : Type 0 where
  pub unread : AreUnread told (limits_in p (kind p t) (reads p t)) rs
  pub drafts : ds ≡ map (fresh_at told) (targets p t)
  pub carried : IsOpening apply p first marked
      → IfSome told (λ s. map read_told rs ≡ inputs p (carries apply p marked) t (kind p t) (reads p t))

-- what an abandoned loan asks
pub record CanAbandon (apply : Apply) (p : Plan) (first : List Event) (marked : Store) (told : Option Store)
    (t : ℕ) (rs : List ReadState) (ds : List DraftState) (cause : Cause) : Type 0 where
  pub loan : IsLoan p told t rs ds
  pub kind_is : IsWorkers cause
  pub fits : CauseFits p t cause []
  pub shown : IsBehind rs ds cause
  pub is_told : IsOpening apply p first marked → IsTold apply p marked told t cause

-- the sizes and the digest of what was filled
abbrev pub sizes_in : Filled → List ℕ
sizes_in (Moved n digest) = n ∷ []
sizes_in (Made sizes) = sizes.items

abbrev pub digest_in : Filled → Option (List ℕ)
digest_in (Moved n digest) = digest
digest_in (Made sizes) = None

-- a loan may be settled with what was filled, or abandoned with the cause
abbrev pub CanFinish : Apply → Plan → List Event → Store → Option Store → ℕ → List ReadState
    → List DraftState → Result Filled Cause → Type 0
CanFinish apply p first marked told t rs ds (Ok filled) =
    CanSettle apply p first marked told t rs ds (sizes_in filled) (digest_in filled)
CanFinish apply p first marked told t rs ds (Err cause) = CanAbandon apply p first marked told t rs ds cause

-- What the filling of a task's drafts has come to, with the states of the parts and the tool's count before and after.
pub record Fills (apply : Apply) (p : Plan) (t : ℕ) (rs0 rs1 : List ReadState) (ds0 ds1 : List DraftState)
    (before later : ℕ) (result : Result Filled Cause) : Type 0 where
  pub filled : IfOk result (HasFilled apply p t rs0 ds0 ds1)
  pub why : IfErr result (IsWhy apply p t rs0 ds0 ds1)
  pub shown : IfErr result (IsShown (part_faults rs0 ds0) (part_faults rs1 ds1) before later)
  pub once : part_faults rs1 ds1 ≤ part_faults rs0 ds0 + blames result
  pub fits : IfErr result (λ c. CauseFits p t c [])
  pub readings : Each IsSteadyReading rs0 rs1
  pub drafts : Each IsSteadyDraft ds0 ds1
  pub tool : before ≤ later

-- how often the tool failed then
abbrev pub failures_in : Result Filled Cause → ℕ
failures_in (Ok filled) = 0
failures_in (Err cause) = tool_fault_in cause
