-- What a worker's turns at a shared yard leave its pass with.
use Rattle.std.specs.Prelude.{◌≡◌, ℕ, ◌⊎◌, false, cond, List, [], ◌∷◌, ◌++◌, Option, Some, None, IfSome, Result, Ok, Err}
use Rattle.values.specs.Apply.{Apply}
use Rattle.values.specs.declared.memory.Memory.{Memory}
use Rattle.outside.specs.code.Parts.{DraftState, ReadState}
use Rattle.outside.specs.declared.store.Store.{Store}
use Rattle.plan_core.specs.declared.plan.Plan.{Plan}
use Rattle.plan_core.specs.Words.{kind, task_numbers}
use Rattle.plan_core.specs.code.Proper.{IsProper}
use Rattle.run_record.specs.Events.{Event, Grant, Regrant}
use Rattle.lease_rules.specs.Legal.{IsOpen}
use Rattle.lease_rules.specs.code.Owning.{is_open_after}
use Rattle.lease_rules.specs.State.{State, now}
use Rattle.ruled_lock.specs.declared.lock.RuledLock.{RuledLock}
use Rattle.ruled_lock.specs.declared.pass.Pass.{Pass}
use Rattle.ruled_lock.specs.Lock.{IsOf}
use Rattle.ruled_lock.specs.Pass.{IsIdle, IsSamePass}
use Rattle.site_yard.specs.declared.chronicle.Charter.{Charter}
use Rattle.site_yard.specs.declared.leased.Leased.{Leased}
use Rattle.site_yard.specs.declared.leased.Leased.TheVariants as leased
use Rattle.worker_gate.specs.code.Alone.{IsOver}
use Rattle.worker_gate.specs.code.Tending.{Finishes, HasLoan, IsHeld}

-- the plan of a charter; what the host tells, if it does; the state of a record
abbrev pub plan_of : Charter → Plan
plan_of g = g.ordered.plan

abbrev pub told_of : Charter → Option Store
told_of g = cond g.tells (Some g.marked) None

abbrev pub state_of : Charter → List Event → State
state_of g r = now g.ordered.plan (task_numbers g.ordered.tasks.items) r

-- no task is open for the worker
abbrev pub NoneOpenFor : Charter → ℕ → List Event → Type 0
NoneOpenFor g w r = (t : ℕ) → IsOpen (state_of g r) w t → ⊥

-- by a worker's own entries no task is open for it
abbrev pub NoneOpenBy : List Event → Type 0
NoneOpenBy mine = (t : ℕ) → is_open_after t false mine ≡ false

-- all tasks have ended and no Fail stands, or one does; and none is open for the worker
pub record IsOverFor (g : Charter) (w : ℕ) (r : List Event) : Type 0 where
  pub over : IsOver (plan_of g) (state_of g r)
  pub none_open : NoneOpenFor g w r

-- The loan is one of a task of the charter's plan, as it was made.
pub record IsHeldFor (apply : Apply) (g : Option Charter) (t : ℕ) (rs : List ReadState)
    (ds : List DraftState) : Type 0 where
  pub charter : Charter
  pub is : g ≡ Some charter
  pub proper : IsProper (plan_of charter)
  pub has_loan : HasLoan (kind (plan_of charter) t)
  pub held : IsHeld apply (plan_of charter) charter.opened charter.marked (told_of charter) t rs ds

-- what a lease answers, with the worker's own entries before and after, and the record after
abbrev pub LeasesOwn : Option Charter → ℕ → List Event → List Event → List Event → Leased → Type 0
LeasesOwn g w mine after seen (leased.Granted t) = (after ≡ mine ++ Grant w t.0 ∷ [])
    ⊎ (after ≡ mine ++ Regrant w t.0 ∷ [])
LeasesOwn g w mine after seen (leased.Swept t) = Finishes w t.0 0 mine after
LeasesOwn g w mine after seen (leased.Failed t) = Finishes w t.0 0 mine after
LeasesOwn g w mine after seen (leased.Again t) = Finishes w t.0 0 mine after
LeasesOwn g w mine after seen leased.NotYet = after ≡ mine
LeasesOwn g w mine after seen leased.Done = (after ≡ mine) × IfSome g (λ c. IsOverFor c w seen)
LeasesOwn g w mine after seen leased.Stopped = (after ≡ mine) × IfSome g (λ c. IsOverFor c w seen)

-- a plan that was copied is that of the charter
abbrev pub IsPlanOf : Option Charter → Result Plan Memory → Type 0
IsPlanOf g (Ok p) = IfSome g (λ c. p ≡ plan_of c)
IsPlanOf g (Err refused) = Unit {0}

-- The pass q is p later on, of the lock still and between two turns.
module _ {C G I : Type 0} {g : _} where
  pub record KeepsTurn (lock : RuledLock C G I) (p q : Pass C G I g) : Type 0 where
    pub of : IsOf lock q
    pub idle : IsIdle q
    pub same : IsSamePass p q
