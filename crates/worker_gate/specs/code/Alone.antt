-- What a worker adds to a record that works alone.
use Rattle.std.specs.Prelude.{◌≡◌, ◌==◌, ℕ, ◌⊎◌, Bool, true, false, cond, List, [], ◌∷◌, ◌++◌, length, take, Option, Some, None}
use Rattle.plan_core.specs.declared.plan.Plan.{Plan}
use Rattle.run_record.specs.Events.{Event, Grant, Clean, Again, Regrant}
use Rattle.lease_rules.specs.Legal.{IsComplete, IsOpen}
use Rattle.lease_rules.specs.State.{State, after, now}
use Rattle.lease_rules.specs.Owning.{worker}
use Rattle.site_yard.specs.code.Failures.{RoseBy, tool_faults}

-- no task is open, for any worker
abbrev pub NoneOpen : State → Type 0
NoneOpen s = (w t : ℕ) → IsOpen s w t → ⊥

-- the entries are all one worker's
abbrev pub AllBy : ℕ → List Event → Type 0
AllBy w [] = Unit {0}
AllBy w (e ∷ r) = (worker e ≡ w) × AllBy w r

-- the tasks that entries begin, in order: those that are granted, and the Cleans that are done
abbrev pub begun_by : Event → List ℕ
begun_by (Grant w t) = t ∷ []
begun_by (Clean w t) = t ∷ []
begun_by (Regrant w t) = t ∷ []
begun_by _ = []

abbrev pub begun : List Event → List ℕ
begun [] = []
begun (e ∷ r) = begun_by e ++ begun r

-- tasks, each named once where it stands several times one after the other; the one before the first may be known
abbrev pub is_repeat : Option ℕ → ℕ → Bool
is_repeat None t = false
is_repeat (Some u) t = u == t

abbrev pub without_repeats : Option ℕ → List ℕ → List ℕ
without_repeats last [] = []
without_repeats last (t ∷ ts) = cond (is_repeat last t) (without_repeats last ts)
    (t ∷ without_repeats (Some t) ts)

-- the tasks that entries begin, one that was tried again at once named once
abbrev pub tried : List Event → List ℕ
tried r = without_repeats None (begun r)

-- no task is open, and this one is the first of those that are left
abbrev pub IsNext : State → ℕ → Type 0
IsNext s t = NoneOpen s × (t ∷ [] ≡ take 1 s.rest)

-- What a worker alone begins is the first of what is left, and no other task is open; so is a Clean that it tries again.
-- It begins no fresh order.
abbrev pub TakesFirst : State → Event → Type 0
TakesFirst s (Grant w t) = IsNext s t
TakesFirst s (Clean w t) = IsNext s t
TakesFirst s (Regrant w t) = ⊥
TakesFirst s (Again w t cause ns) = IsOpen s w t ⊎ IsNext s t
TakesFirst s _ = Unit {0}

abbrev pub TakeFirst : Plan → State → List Event → Type 0
TakeFirst p s [] = Unit {0}
TakeFirst p s (e ∷ r) = TakesFirst s e × TakeFirst p (after p s e) r

-- all tasks have ended and no Fail stands, or one does
abbrev pub IsOver : Plan → State → Type 0
IsOver p s = IsComplete p s ⊎ (s.failing ≡ true)

-- What is added after a record r until it is over: worker 0's entries, each of which begins what is left first. So tasks
-- begin in the order that was left, and one that is tried again does so at once. No task stays open. The tool's count,
-- which was `before`, shows its failures.
pub record WorksAlone (p : Plan) (order : List ℕ) (r after : List Event) (before later : ℕ) : Type 0 where
  pub added : List Event
  pub is : after ≡ r ++ added
  pub by_zero : AllBy 0 added
  pub over : IsOver p (now p order after)
  pub none_open : NoneOpen (now p order after)
  pub first : TakeFirst p (now p order r) added
  pub in_order : tried added ≡ take (length (tried added)) (now p order r).rest
  pub counted : RoseBy (tool_faults 0 added) before later
