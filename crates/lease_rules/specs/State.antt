-- The state of a record: what its entries come to, one after the other.
use Rattle.std.specs.Prelude.{ℕ, ◌+◌, ◌==◌, Bool, true, false, cond, not, List, [], ◌∷◌, filter, Option, Some, None}
use Rattle.plan_core.specs.declared.plan.Plan.{Plan}
use Rattle.plan_core.specs.Numbers.{has}
use Rattle.plan_core.specs.Words.{cleans}
use Rattle.storage_simulation.specs.declared.standing.Held.{Held}
use Rattle.storage_simulation.specs.declared.standing.Held.TheVariants.{Nothing, Stored, Reserved}
use Rattle.storage_simulation.specs.declared.standing.Phase.{Phase}
use Rattle.storage_simulation.specs.declared.standing.Phase.TheVariants.{Waits, Runs, Ended}
use Rattle.storage_simulation.specs.Goods.{good_size, makes}
use Rattle.storage_simulation.specs.Ordering.{Progress}
use Rattle.storage_simulation.specs.OrderLaw.{stated_order}
use Rattle.run_record.specs.Events.{Event, Grant, Arrive, End, Clean, Fail, Again, Regrant}

-- Of each task how far it is, whom its last grant names, how often it was tried again and whether it failed; of each
-- good what is held; whether any Fail stands; and the tasks that are left, in the order that is kept.
pub record State : Type 0 where
  pub phase : ℕ → Phase
  pub holder : ℕ → ℕ
  pub agains : ℕ → ℕ
  pub failed : ℕ → Bool
  pub held : ℕ → Held
  pub failing : Bool
  pub rest : List ℕ

abbrev pub ended : Phase → Bool
ended Ended = true
ended _ = false

-- the function with another value at t; the list without t
abbrev pub put : {X : Type 0} → (ℕ → X) → ℕ → X → ℕ → X
put f t x u = cond (t == u) x (f u)

abbrev pub without : ℕ → List ℕ → List ℕ
without t ts = filter (λ u. not (t == u)) ts

-- A task runs from its grant until its Arrive or End, and waits again after an Again. A Clean has ended at once.
abbrev pub phase_after : Event → (ℕ → Phase) → ℕ → Phase
phase_after (Grant w t) f = put f t Runs
phase_after (Regrant w t) f = put f t Runs
phase_after (Again w t c ns) f = put f t Waits
phase_after (Arrive w t n) f = put f t Ended
phase_after (End w t ns) f = put f t Ended
phase_after (Clean w t) f = put f t Ended
phase_after (Fail w t c ns) f = f

abbrev pub holder_after : Event → (ℕ → ℕ) → ℕ → ℕ
holder_after (Grant w t) f = put f t w
holder_after (Regrant w t) f = put f t w
holder_after _ f = f

abbrev pub agains_after : Event → (ℕ → ℕ) → ℕ → ℕ
agains_after (Again w t c ns) f = put f t (f t + 1)
agains_after _ f = f

abbrev pub failed_after : Event → (ℕ → Bool) → ℕ → Bool
failed_after (Fail w t c ns) f = put f t true
failed_after _ f = f

abbrev pub failing_after : Event → Bool → Bool
failing_after (Fail w t c ns) b = true
failing_after _ b = b

-- What is held where a task starts: what it makes is reserved at its declared size.
abbrev pub reserved_for : Plan → ℕ → (ℕ → Held) → ℕ → Held
reserved_for p t f = λ g. cond (has (makes p t) g) (Reserved (good_size p g)) (f g)

-- the size of a good among those that an End lists
abbrev pub stored_among : List ℕ → List ℕ → ℕ → Held → Held
stored_among [] ns g h = h
stored_among (x ∷ xs) [] g h = h
stored_among (x ∷ xs) (n ∷ ns) g h = cond (x == g) (Stored n) (stored_among xs ns g h)

-- A good is reserved from its maker's grant, stored at its actual size from the maker's Arrive or End, and gone after
-- its Clean. A failure changes nothing.
abbrev pub held_after : Plan → Event → (ℕ → Held) → ℕ → Held
held_after p (Grant w t) f = reserved_for p t f
held_after p (Regrant w t) f = reserved_for p t f
held_after p (Arrive w t n) f = λ g. cond (has (makes p t) g) (Stored n) (f g)
held_after p (End w t ns) f = λ g. stored_among (makes p t) ns g (f g)
held_after p (Clean w t) f = λ g. cond (cleans p t g) Nothing (f g)
held_after p _ f = f

-- the standing in which t runs besides, and Order from it; this order or else the one that is kept
abbrev pub started : Plan → State → ℕ → Progress
started p s t = record { phase = put s.phase t Runs; held = reserved_for p t s.held }

abbrev pub order_with : Plan → State → ℕ → Option (List ℕ)
order_with p s t = stated_order p (started p s t)

abbrev pub order_or : Option (List ℕ) → List ℕ → List ℕ
order_or None ts = ts
order_or (Some us) ts = us

-- A Grant or a Clean takes its task out; an Again puts it at the front; a Regrant makes a fresh order.
abbrev pub rest_after : Plan → State → Event → List ℕ
rest_after p s (Grant w t) = without t s.rest
rest_after p s (Clean w t) = without t s.rest
rest_after p s (Again w t c ns) = t ∷ without t s.rest
rest_after p s (Regrant w t) = order_or (order_with p s t) s.rest
rest_after p s (Arrive w t n) = s.rest
rest_after p s (End w t ns) = s.rest
rest_after p s (Fail w t c ns) = s.rest

abbrev pub after : Plan → State → Event → State
after p s e = record {
  phase = phase_after e s.phase;
  holder = holder_after e s.holder;
  agains = agains_after e s.agains;
  failed = failed_after e s.failed;
  held = held_after p e s.held;
  failing = failing_after e s.failing;
  rest = rest_after p s e;
}

-- before the first entry all tasks wait, and nothing is held
abbrev pub opened : List ℕ → State
opened order = record {
  phase = λ t. Waits;
  holder = λ t. 0;
  agains = λ t. 0;
  failed = λ t. false;
  held = λ g. Nothing;
  failing = false;
  rest = order;
}

abbrev pub now_from : Plan → State → List Event → State
now_from p s [] = s
now_from p s (e ∷ r) = now_from p (after p s e) r

-- the state of a record of an order
abbrev pub now : Plan → List ℕ → List Event → State
now p order r = now_from p (opened order) r

-- what is stored, and what is reserved, of a good
abbrev pub stored_size : Held → ℕ
stored_size (Stored n) = n
stored_size _ = 0

abbrev pub reserved_size : Held → ℕ
reserved_size (Reserved n) = n
reserved_size _ = 0
