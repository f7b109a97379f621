-- Beside `specs/Law.antt`: what the code's own contracts say.
use Rattle.std.specs.Prelude.{◌≡◌, ℕ, ◌+◌, ◌≤◌, ◌<◌, true, false, List, [], ◌∷◌, length, Some}
use Rattle.plan_core.specs.declared.plan.Plan.{Plan}
use Rattle.plan_core.specs.Numbers.{has}
use Rattle.plan_core.specs.Words.{cleans, count_pairs, count_tasks, is_clean, parents, retries}
use Rattle.storage_simulation.specs.declared.standing.Held.{Held}
use Rattle.storage_simulation.specs.declared.standing.Held.TheVariants.{Nothing, Reserved}
use Rattle.storage_simulation.specs.declared.standing.Phase.{Phase}
use Rattle.storage_simulation.specs.declared.standing.Phase.TheVariants.{Waits, Runs}
use Rattle.storage_simulation.specs.Goods.{good_size, makes, place_bound, places}
use Rattle.storage_simulation.specs.Usage.{IsWithin}
use Rattle.storage_simulation.specs.Standings.{sizes, waits}
use Rattle.storage_simulation.specs.Fitting.{Fits}
use Rattle.storage_simulation.specs.Ordering.{Progress, size}
use Rattle.storage_simulation.specs.OrderLaw.{stated_order}
use Rattle.lease_rules.specs.State.{State, ended}
use Rattle.lease_rules.specs.Choice.{IsChoice, Safe}
use Rattle.lease_rules.specs.Legal.{IsComplete}
use Rattle.lease_rules.specs.Law.{stored_at, reserved_at}

-- no task runs
abbrev pub IsIdle : State → Type 0
IsIdle s = (u : ℕ) → s.phase u ≡ Runs → ⊥

-- Each place is within its bound, and the state is Safe. Where no task runs and no Fail stands, the first task of rest
-- is the Choice, and without any all tasks have ended.
pub record IsSafeState (p : Plan) (s : State) : Type 0 where
  pub within : (q : ℕ) → q < places p → stored_at p s.held q + reserved_at p s.held q ≤ place_bound p q
  pub safe : Safe p s
  pub choice : (t : ℕ) (ts : List ℕ) → s.failing ≡ false → IsIdle s → s.rest ≡ t ∷ ts → IsChoice p s t
  pub complete : s.failing ≡ false → IsIdle s → s.rest ≡ [] → IsComplete p s

-- Of an order from the start: it fits, and has all tasks.
pub record FitsFromStart (p : Plan) (order : List ℕ) : Type 0 where
  pub fits : Fits p (λ t. Waits) (λ g. Nothing) order
  pub all : (t : ℕ) → t < count_tasks p → has order t ≡ true

-- What every allowed entry keeps, beside Safe: all tasks that wait are left; what a running task makes is reserved, its
-- parents have ended, and it is a task and no Clean; no good counts more than its declared size.
pub record IsSound (p : Plan) (phase : ℕ → Phase) (held : ℕ → Held) (rest : List ℕ) : Type 0 where
  pub safe : Fits p phase held rest
  pub all_left : (u : ℕ) → u < count_tasks p → phase u ≡ Waits → has rest u ≡ true
  pub running_held : (t g : ℕ) → phase t ≡ Runs → has (makes p t) g ≡ true → held g ≡ Reserved (good_size p g)
  pub running_parents : (t u : ℕ) → phase t ≡ Runs → has (parents p t) u ≡ true → ended (phase u) ≡ true
  pub running_kind : (t : ℕ) → phase t ≡ Runs → (is_clean p t ≡ false) × (t < count_tasks p)
  pub small : (g : ℕ) → sizes held g ≤ good_size p g

abbrev pub IsSoundState : Plan → State → Type 0
IsSoundState p s = IsSound p s.phase s.held s.rest

-- besides: a failed task is one of those that fail, and none was tried again more often than the policy allows
pub record IsConsistent (p : Plan) (s : State) : Type 0 where
  pub sound : IsSoundState p s
  pub failed_fails : (t : ℕ) → s.failed t ≡ true → s.failing ≡ true
  pub few_agains : (t : ℕ) → s.agains t ≤ retries p

-- What storage promises of a proper plan: each good has one maker, and its Clean comes after the maker and makes nothing;
-- numbers of goods are in range; an order from a standing within the bounds fits it, and has all tasks that wait.
pub record HasStorageLaws (p : Plan) : Type 0 where
  pub one_maker : (t u g : ℕ) → has (makes p t) g ≡ true → has (makes p u) g ≡ true → t ≡ u
  pub cleans_after : (t u g : ℕ) → cleans p t g ≡ true → has (makes p u) g ≡ true → has (parents p t) u ≡ true
  pub cleans_only : (t g : ℕ) → is_clean p t ≡ false → cleans p t g ≡ false
  pub cleans_make : (t g : ℕ) → is_clean p t ≡ true → has (makes p t) g ≡ false
  pub cleans_range : (t g : ℕ) → cleans p t g ≡ true → g < count_pairs p
  pub makes_range : (t g : ℕ) → has (makes p t) g ≡ true → g < count_pairs p + count_tasks p
  pub makes_few : (t : ℕ) → length (makes p t) ≤ count_pairs p + count_tasks p
  pub order_fits : (st : Progress) (ts : List ℕ) → IsWithin p (size st) [] → stated_order p st ≡ Some ts
      → Fits p st.phase st.held ts
  pub order_all : (st : Progress) (ts : List ℕ) → stated_order p st ≡ Some ts → (t : ℕ) → t < count_tasks p
      → waits (st.phase t) ≡ true → has ts t ≡ true
