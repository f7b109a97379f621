-- What an index says of the tasks that may be placed.
use Rattle.std.specs.Prelude.{◌≡◌, ◌≢◌, ℕ, ◌+◌, ◌-◌, ◌^◌, ◌≤◌, ◌<◌, ◌==◌, ◌⊎◌, ◌&&◌, ◌||◌, Bool, true, false, cond, nat_le, nat_lt, List, length, get_or, Option, Some, None}
use Rattle.plan_core.specs.declared.plan.Plan.{Plan}
use Rattle.plan_core.specs.Numbers.{has}
use Rattle.plan_core.specs.Words.{count_tasks, is_clean, parents}
use Rattle.tournament_tree.specs.declared.tree.Key.{Key}
use Rattle.tournament_tree.specs.Tree.{IsTree, entry, is_less, row}
use Rattle.storage_simulation.specs.declared.index.Index.{Index}
use Rattle.storage_simulation.specs.code.Change.{held_part, size_part}
use Rattle.storage_simulation.specs.code.Front.{missing}
use Rattle.storage_simulation.specs.Goods.{makes, places}
use Rattle.storage_simulation.specs.code.Goods.{place}
use Rattle.storage_simulation.specs.OrderLaw.{fits_after, is_open}
use Rattle.storage_simulation.specs.Ordering.{Progress, comes, frees, goes, is_done, size}
use Rattle.storage_simulation.specs.Usage.{sum_of}

-- Tasks stand at homes: the places, behind them one for the tasks of no place, and one for the Cleans.
abbrev pub or_number : ℕ → Option ℕ → ℕ
or_number d None = d
or_number d (Some s) = s

abbrev pub home : Plan → ℕ → ℕ
home p t = cond (is_clean p t) (places p + 1) (or_number (places p) (place p t))

abbrev pub homes : Plan → ℕ
homes p = places p + 2

-- what a task needs of its place, whatever is placed, counted from 2 ^ 62
abbrev pub need_at : Plan → Progress → ℕ → Option ℕ → ℕ
need_at p st t None = 0
need_at p st t (Some s) = 2 ^ 62 + sum_of (size_part p s) (makes p t) - sum_of (held_part p (size st) s)
    (makes p t)

abbrev pub need : Plan → Progress → ℕ → ℕ
need p st t = cond (is_clean p t) 0 (need_at p st t (place p t))

-- the key of a task: its score counted from 2 ^ 62, and a Clean before all others
abbrev pub key : Plan → Progress → List ℕ → ℕ → Key
key p st front t = record {
  score = cond (is_clean p t) 0 (2 ^ 62 + comes p st t - goes p st front t);
  number = t;
}

-- the key of a ready task
abbrev pub ready_key : Plan → Progress → List ℕ → ℕ → Option Key
ready_key p st front t = cond (is_open p st front t) (Some (key p st front t)) None

-- the key of a task that may be placed: a ready Clean, or a ready task that fits
abbrev pub open_key : Plan → Progress → List ℕ → ℕ → Option Key
open_key p st front t = cond (is_open p st front t && (is_clean p t || fits_after p st front t))
    (Some (key p st front t)) None

-- the least key of the tasks of a home that may be placed
abbrev pub IsBestAt : Plan → Progress → List ℕ → ℕ → Option Key → Type 0
IsBestAt p st front h None = (t : ℕ) → t < count_tasks p → home p t ≡ h → open_key p st front t ≡ None
IsBestAt p st front h (Some k) = ((t : ℕ) × (t < count_tasks p) × (home p t ≡ h)
    × (open_key p st front t ≡ Some k))
    × ((t : ℕ) (l : Key) → t < count_tasks p → home p t ≡ h → open_key p st front t ≡ Some l
    → is_less l k ≡ false)

-- a spot: a home, a need and a task
abbrev pub Spot : Type 0
Spot = ℕ × ℕ × ℕ

abbrev pub spot_at : List Spot → ℕ → Spot
spot_at xs j = get_or xs j (0, 0, 0)

-- one spot stands before another: at an earlier home, or at the same one with no greater need
abbrev pub IsUpTo : Spot → Spot → Type 0
IsUpTo x y = (x.0 < y.0) ⊎ ((x.0 ≡ y.0) × (x.1 ≤ y.1))

-- all tasks, each once, at their homes and by their needs
pub record AreSpots (p : Plan) (st : Progress) (spots : List Spot) (slots : List ℕ) : Type 0 where
  pub long : length spots ≡ count_tasks p
  pub below : (j : ℕ) → j < count_tasks p → (spot_at spots j).2 < count_tasks p
  pub home_is : (j : ℕ) → j < count_tasks p → (spot_at spots j).0 ≡ home p (spot_at spots j).2
  pub need_is : (j : ℕ) → j < count_tasks p → (spot_at spots j).1 ≡ need p st (spot_at spots j).2
  pub rising : (i j : ℕ) → i ≤ j → j < count_tasks p → IsUpTo (spot_at spots i) (spot_at spots j)
  pub slotted : (j : ℕ) → j < count_tasks p → get_or slots (spot_at spots j).2 0 ≡ j
  pub slot_in : (t : ℕ) → t < count_tasks p → get_or slots t 0 < count_tasks p
  pub slot_is : (t : ℕ) → t < count_tasks p → (spot_at spots (get_or slots t 0)).2 ≡ t

-- an index has room for each task and home of the plan
pub record IsIndexFor (p : Plan) (ix : Index) : Type 0 where
  pub spots_long : length ix.spots.items ≡ count_tasks p
  pub slots_long : length ix.slots.items ≡ count_tasks p
  pub keys_tree : IsTree ix.keys.rows.items
  pub keys_wide : length (row ix.keys.rows.items 0) ≡ count_tasks p
  pub best_tree : IsTree ix.best.rows.items
  pub best_wide : length (row ix.best.rows.items 0) ≡ homes p
  pub comes_long : length ix.comes.items ≡ count_tasks p
  pub goes_long : length ix.goes.items ≡ count_tasks p

-- what it says whatever is placed
pub record IsLaid (p : Plan) (st : Progress) (ix : Index) : Type 0 where
  pub made_for : IsIndexFor p ix
  pub spots : AreSpots p st ix.spots.items ix.slots.items
  pub comes_are : (t : ℕ) → t < count_tasks p → get_or ix.comes.items t 0 ≡ comes p st t

-- what goes with each task that waits
pub record AreGoes (p : Plan) (st : Progress) (front gs : List ℕ) : Type 0 where
  pub each : (v : ℕ) → is_done st front v ≡ false → get_or gs v 0 ≡ goes p st front v
  pub small : (v : ℕ) → get_or gs v 0 ≤ 2 ^ 62

-- the key that the index has of a task
abbrev pub told : Index → ℕ → Option Key
told ix t = entry ix.keys.rows.items 0 (get_or ix.slots.items t 0)

-- an index that is right after a front
pub record IsIndex (p : Plan) (st : Progress) (front : List ℕ) (ix : Index) : Type 0 where
  pub laid : IsLaid p st ix
  pub goes : AreGoes p st front ix.goes.items
  pub keys : (t : ℕ) → t < count_tasks p → told ix t ≡ ready_key p st front t
  pub bests : (h : ℕ) → h < homes p → IsBestAt p st front h (entry ix.best.rows.items 0 h)

-- what a waiting task counts of one task that it may make ready
abbrev pub last_of : Plan → Progress → List ℕ → ℕ → ℕ → ℕ
last_of p st front v c = cond (has (parents p c) v && (missing p st front c == 1)) (frees p st c) 0

-- the one parent that isn't done
pub record IsLast (p : Plan) (st : Progress) (front : List ℕ) (c u : ℕ) : Type 0 where
  pub parent : has (parents p c) u ≡ true
  pub waits : is_done st front u ≡ false
  pub alone : (v : ℕ) → has (parents p c) v ≡ true → is_done st front v ≡ false → v ≡ u

-- the key of a task has nothing to do with c: the task isn't c, or c isn't ready; and it isn't the last parent of c
abbrev pub IsApart : Plan → Progress → List ℕ → ℕ → ℕ → Type 0
IsApart p st front c u = (u ≡ c → missing p st front c ≢ 0)
    × (is_done st front u ≡ false → last_of p st front u c ≡ 0)

-- what is told of a task is right after a front, or it is what was told, and the task is apart from all of some tasks
abbrev pub IsToldBut : Plan → Progress → List ℕ → Index → Index → (ℕ → Bool) → Type 0
IsToldBut p st front old new among = (u : ℕ) → u < count_tasks p
    → (told new u ≡ ready_key p st front u)
    ⊎ ((told new u ≡ told old u) × ((c : ℕ) → among c ≡ true → IsApart p st front c u))

-- a home has nothing to do with c: it isn't that of c, or c isn't ready; and it isn't that of the last parent of c
abbrev pub IsAway : Plan → Progress → List ℕ → ℕ → ℕ → Type 0
IsAway p st front c h = (home p c ≡ h → missing p st front c ≢ 0)
    × ((u : ℕ) → missing p st front c ≡ 1 → IsLast p st front c u → home p u ≢ h)

-- the best of a home is right after a front, or it is as before, and the home is away from all of some tasks
abbrev pub AreBestsBut : Plan → Progress → List ℕ → Index → Index → (ℕ → Bool) → Type 0
AreBestsBut p st front old new among = (h : ℕ) → h < homes p
    → IsBestAt p st front h (entry new.best.rows.items 0 h)
    ⊎ ((entry new.best.rows.items 0 h ≡ entry old.best.rows.items 0 h)
    × ((c : ℕ) → among c ≡ true → IsAway p st front c h))

-- the bests of the home and of the place of a task are right after a front, and the others as before
abbrev pub AreOwnBests : Plan → Progress → List ℕ → Index → Index → ℕ → Type 0
AreOwnBests p st front old new t = (h : ℕ) → h < homes p
    → IsBestAt p st front h (entry new.best.rows.items 0 h)
    ⊎ ((entry new.best.rows.items 0 h ≡ entry old.best.rows.items 0 h) × (h ≢ home p t)
    × (place p t ≡ Some h → ⊥))

-- only the keys have changed; only the bests have
pub record IsKeyed (old new : Index) : Type 0 where
  pub spots : new.spots ≡ old.spots
  pub slots : new.slots ≡ old.slots
  pub best : new.best ≡ old.best
  pub comes : new.comes ≡ old.comes
  pub goes : new.goes ≡ old.goes

-- all stays but the bests
pub record IsSettled (old new : Index) : Type 0 where
  pub spots : new.spots ≡ old.spots
  pub slots : new.slots ≡ old.slots
  pub keys : new.keys ≡ old.keys
  pub comes : new.comes ≡ old.comes
  pub goes : new.goes ≡ old.goes

-- so many of the first n numbers pass a test, and those before the others
pub record IsCut (test : ℕ → Bool) (n cut : ℕ) : Type 0 where
  pub most : cut ≤ n
  pub within : (j : ℕ) → j < cut → test j ≡ true
  pub past : (j : ℕ) → cut ≤ j → j < n → test j ≡ false

-- a spot is at an earlier home; it is there, or at this home with no greater need
abbrev pub is_before_home : ℕ → Spot → Bool
is_before_home h x = nat_lt x.0 h

abbrev pub is_up_to : ℕ → ℕ → Spot → Bool
is_up_to h r x = nat_lt x.0 h || ((x.0 == h) && nat_le x.1 r)
