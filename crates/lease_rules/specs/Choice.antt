-- Safe states, and the task that may begin next: the Choice, or the task of a fresh order.
use Rattle.std.specs.Prelude.{◌≡◌, ℕ, zero, suc, ◌⊎◌, true, false, cond, List, [], ◌∷◌, ◌++◌, None, is_some}
use Rattle.plan_core.specs.declared.plan.Plan.{Plan}
use Rattle.plan_core.specs.Numbers.{has}
use Rattle.plan_core.specs.Words.{is_clean, is_fresh, parents}
use Rattle.storage_simulation.specs.Standings.{sizes}
use Rattle.storage_simulation.specs.Usage.{IsWithin}
use Rattle.storage_simulation.specs.Fitting.{Fits}
use Rattle.run_record.specs.Events.{Event, Clean, Grant}
use Rattle.lease_rules.specs.State.{State, after, ended, order_with, reserved_for}

-- Safe: the tasks that are left, in the order that is kept, would all be done within every bound.
abbrev pub Safe : Plan → State → Type 0
Safe p s = Fits p s.phase s.held s.rest

-- the entry by which a worker begins a task
abbrev pub start_event : Plan → ℕ → ℕ → Event
start_event p w t = cond (is_clean p t) (Clean w t) (Grant w t)

abbrev pub HaveParentsEnded : Plan → State → ℕ → Type 0
HaveParentsEnded p s t = (u : ℕ) → has (parents p t) u ≡ true → ended (s.phase u) ≡ true

-- The task's parents have all ended, and its Grant, or its Clean, leaves a Safe state.
pub record CanStart (p : Plan) (s : State) (t : ℕ) : Type 0 where
  pub parents_ended : HaveParentsEnded p s t
  pub leaves_safe : (w : ℕ) → Safe p (after p s (start_event p w t))

-- The Choice is the first task of rest that can start. There is none after a Fail.
pub record IsChoice (p : Plan) (s : State) (t : ℕ) : Type 0 where
  pub no_fail : s.failing ≡ false
  pub before : List ℕ
  pub later : List ℕ
  pub is : s.rest ≡ before ++ t ∷ later
  pub can : CanStart p s t
  pub first : (u : ℕ) → has before u ≡ true → CanStart p s u → ⊥

abbrev pub HasNoChoice : Plan → State → Type 0
HasNoChoice p s = (t : ℕ) → IsChoice p s t → ⊥

-- A fresh order may begin with the task: its parents have all ended, and after its grant each place is within its bound.
pub record IsCandidate (p : Plan) (s : State) (t : ℕ) : Type 0 where
  pub no_clean : is_clean p t ≡ false
  pub parents_ended : HaveParentsEnded p s t
  pub within : IsWithin p (sizes (reserved_for p t s.held)) []

-- Of at most n candidates among the tasks, t is the first with which there is an order of all that wait then.
abbrev pub IsFreshAmong : Plan → State → ℕ → List ℕ → ℕ → Type 0
IsFreshAmong p s n [] t = ⊥
IsFreshAmong p s zero (x ∷ xs) t = ⊥
IsFreshAmong p s (suc n) (x ∷ xs) t =
    ((IsCandidate p s x → ⊥) × IsFreshAmong p s (suc n) xs t)
    ⊎ ((IsCandidate p s x × (is_some (order_with p s x) ≡ true) × (x ≡ t))
    ⊎ (IsCandidate p s x × (order_with p s x ≡ None) × IsFreshAmong p s n xs t))

-- The task of a fresh order: under a fresh policy, where there is neither a Choice nor a Fail, the first of the first
-- four candidates of rest with which there is an order.
pub record IsFresh (p : Plan) (s : State) (t : ℕ) : Type 0 where
  pub fresh : is_fresh p ≡ true
  pub no_fail : s.failing ≡ false
  pub no_choice : HasNoChoice p s
  pub among : IsFreshAmong p s 4 s.rest t
