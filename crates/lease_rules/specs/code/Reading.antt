-- What a record says, read off the list of its entries.
use Rattle.std.specs.Prelude.{◌≡◌, ℕ, ◌==◌, ◌&&◌, ◌||◌, Bool, true, false, cond, not, List, [], ◌∷◌, length, filter, Option, Some, None}
use Rattle.std.specs.List.{list_any}
use Rattle.values.specs.code.Policy.{plain}
use Rattle.plan_core.specs.declared.plan.Plan.{Plan}
use Rattle.plan_core.specs.Numbers.{has, or_else}
use Rattle.plan_core.specs.Words.{cleans}
use Rattle.storage_simulation.specs.declared.standing.Held.{Held}
use Rattle.storage_simulation.specs.declared.standing.Held.TheVariants.{Nothing, Stored, Reserved}
use Rattle.storage_simulation.specs.Goods.{good_size, makes}
use Rattle.run_record.specs.Events.{Event, Grant, Arrive, End, Clean, Fail, Again, Regrant}
use Rattle.lease_rules.specs.State.{State, ended}
use Rattle.lease_rules.specs.code.State.{runs}

-- an entry is the task's Arrive, End or Clean; a grant of it, which is a Grant or a Regrant; its Again; its Fail
abbrev pub ends : ℕ → Event → Bool
ends t (Arrive w u n) = u == t
ends t (End w u ns) = u == t
ends t (Clean w u) = u == t
ends t _ = false

abbrev pub grants : ℕ → Event → Bool
grants t (Grant w u) = u == t
grants t (Regrant w u) = u == t
grants t _ = false

abbrev pub again_of : ℕ → Event → Bool
again_of t (Again w u c ns) = u == t
again_of t _ = false

abbrev pub fails : ℕ → Event → Bool
fails t (Fail w u c ns) = u == t
fails t _ = false

abbrev pub is_fail : Event → Bool
is_fail (Fail w u c ns) = true
is_fail _ = false

-- the last entry that passes the test, and the first
abbrev pub last_of : (Event → Bool) → List Event → Option Event
last_of test [] = None
last_of test (e ∷ r) = or_else (last_of test r) (cond (test e) (Some e) None)

-- a grant stands, and no Again after the last one
abbrev pub is_grant_in : ℕ → Option Event → Bool
is_grant_in t None = false
is_grant_in t (Some e) = grants t e

abbrev pub is_granted : ℕ → List Event → Bool
is_granted t r = is_grant_in t (last_of (λ e. grants t e || again_of t e) r)

abbrev pub worker_in : Option Event → ℕ
worker_in (Some (Grant w u)) = w
worker_in (Some (Regrant w u)) = w
worker_in _ = 0

-- an entry reserves the good, gives it up, or stores it at a size
abbrev pub reserves : Plan → ℕ → Event → Bool
reserves p g (Grant w t) = has (makes p t) g
reserves p g (Regrant w t) = has (makes p t) g
reserves p g _ = false

abbrev pub frees : Plan → ℕ → Event → Bool
frees p g (Clean w t) = cleans p t g
frees p g _ = false

abbrev pub size_among : List ℕ → List ℕ → ℕ → Option ℕ
size_among [] ns g = None
size_among (x ∷ xs) [] g = None
size_among (x ∷ xs) (n ∷ ns) g = cond (x == g) (Some n) (size_among xs ns g)

abbrev pub stores : Plan → ℕ → Event → Option ℕ
stores p g (Arrive w t n) = cond (has (makes p t) g) (Some n) None
stores p g (End w t ns) = size_among (makes p t) ns g
stores p g _ = None

abbrev pub stored : Plan → List Event → ℕ → Option ℕ
stored p [] g = None
stored p (e ∷ r) g = or_else (stores p g e) (stored p r g)

-- reserved from its maker's first grant until the maker's Arrive or End, stored at the size there from that entry until
-- its Clean
abbrev pub stored_or : Option ℕ → Held → Held
stored_or None h = h
stored_or (Some n) h = Stored n

abbrev pub held_by : Bool → Option ℕ → Bool → ℕ → Held
held_by freed size reserved n = cond freed Nothing (stored_or size (cond reserved (Reserved n) Nothing))

abbrev pub held_in : Plan → List Event → ℕ → Held
held_in p r g = held_by (list_any (frees p g) r) (stored p r g) (list_any (reserves p g) r) (good_size p g)

-- The state says of each task, of each good and of failures what the list says.
pub record IsRead (p : Plan) (r : List Event) (s : State) : Type 0 where
  pub held : (g : ℕ) → s.held g ≡ held_in p r g
  pub ended : (t : ℕ) → ended (s.phase t) ≡ list_any (ends t) r
  pub runs : (t : ℕ) → runs (s.phase t) ≡ (is_granted t r && not (list_any (ends t) r))
  pub holder : (t : ℕ) → s.holder t ≡ worker_in (last_of (grants t) r)
  pub failed : (t : ℕ) → s.failed t ≡ list_any (fails t) r
  pub failing : s.failing ≡ list_any is_fail r
  pub agains : (t : ℕ) → s.agains t ≡ length (filter (again_of t) r)

-- Under the plain policy a task runs where its Grant stands and it hasn't ended, and rest is the order without granted
-- tasks and without swept Cleans.
abbrev pub begins : ℕ → Event → Bool
begins t (Grant w u) = u == t
begins t (Clean w u) = u == t
begins t _ = false

abbrev pub IsPlain : Plan → Type 0
IsPlain p = p.policy ≡ plain

-- under the plain policy: which tasks run, and that rest is the order without those that were begun
pub record IsPlainlyRead (order : List ℕ) (r : List Event) (s : State) : Type 0 where
  pub runs : (t : ℕ) → runs (s.phase t) ≡ (list_any (grants t) r && not (list_any (ends t) r))
  pub rest : s.rest ≡ filter (λ t. not (list_any (begins t) r)) order
