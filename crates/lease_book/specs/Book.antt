-- What the calls of a book answer.
use Rattle.std.specs.Prelude.{◌≡◌, ℕ, ◌⊎◌, ◌&&◌, Bool, true, false, cond, not, nat_lt, List, [], ◌∷◌, ◌++◌}
use Rattle.plan_core.specs.declared.plan.Plan.{Plan}
use Rattle.plan_core.specs.Words.{is_clean, retries, task_numbers}
use Rattle.storage_simulation.specs.declared.standing.Phase.TheVariants.{Runs}
use Rattle.run_record.specs.declared.entry.Cause.{Cause}
use Rattle.run_record.specs.Events.{Event, Again, Fail, Grant, Regrant, may_retry}
use Rattle.lease_rules.specs.State.{State, now}
use Rattle.lease_rules.specs.Choice.{HasNoChoice, IsChoice, IsFresh}
use Rattle.lease_rules.specs.Legal.{IsComplete}
use Rattle.lease_book.specs.declared.book.Book.{Book}
use Rattle.lease_book.specs.declared.leasing.Next.{Next}
use Rattle.lease_book.specs.declared.leasing.Next.TheVariants.{Task, Done, Stopped, NotYet}

-- the state of a book's record
abbrev pub state_at : Book → State
state_at b = now b.plan (task_numbers b.order.items) b.history.events

-- what `next` answers a worker, and the entries before and after
abbrev pub IsNext : Plan → State → ℕ → Next → List Event → List Event → Type 0
IsNext p s w (Task t) r new = (IsChoice p s t.0 × (new ≡ cond (is_clean p t.0) r (r ++ Grant w t.0 ∷ [])))
    ⊎ (IsFresh p s t.0 × (new ≡ r ++ Regrant w t.0 ∷ []))
IsNext p s w Done r new = IsComplete p s × (new ≡ r)
IsNext p s w Stopped r new = (s.failing ≡ true) × (new ≡ r)
IsNext p s w NotYet r new = (s.failing ≡ false) × HasNoChoice p s × ((t : ℕ) → IsFresh p s t → ⊥)
    × ((u : ℕ) × (s.phase u ≡ Runs)) × (new ≡ r)

-- A failure is tried again where its cause may be, no Fail stands and the policy has retries left.
abbrev pub is_tried_again : Plan → State → ℕ → Cause → Bool
is_tried_again p s t c = may_retry c && (not s.failing && nat_lt (s.agains t) (retries p))

abbrev pub failure : Plan → State → ℕ → ℕ → Cause → List ℕ → Event
failure p s w t c ns = cond (is_tried_again p s t c) (Again w t c ns) (Fail w t c ns)
