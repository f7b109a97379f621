-- A fresh order in place of the one that is kept.
use Rattle.std.specs.Prelude.{◌≡◌, ℕ, ◌+◌, ◌-◌, ◌<◌, ◌≤◌, true, false, cond, not, List, [], ◌++◌, length, map, take, get_or, replicate, Option, Some, None}
use Rattle.plan_core.specs.declared.plan.Plan.{Plan}
use Rattle.plan_core.specs.Numbers.{below, has}
use Rattle.plan_core.specs.Words.{count_tasks, is_clean, task_numbers}
use Rattle.storage_simulation.specs.declared.standing.Standing.{Standing}
use Rattle.storage_simulation.specs.code.Following.{Follows}
use Rattle.storage_simulation.specs.code.Goods.{IsWithinLimits, place}
use Rattle.storage_simulation.specs.Goods.{good_size, places}
use Rattle.storage_simulation.specs.code.Standings.{IsStanding, held_of, phase_of}
use Rattle.storage_simulation.specs.Standings.{sizes}
use Rattle.storage_simulation.specs.Usage.{usage}
use Rattle.run_record.specs.Events.{Regrant}
use Rattle.lease_rules.specs.Legal.{Allowed}
use Rattle.lease_rules.specs.State.{State, after, order_with}
use Rattle.place_peaks.specs.declared.peaks.Peaks.{Peaks}
use Rattle.place_peaks.specs.Entries.{AreTied}
use Rattle.place_peaks.specs.declared.seating.Seating.{Seating}
use Rattle.place_peaks.specs.Peaks.{HasRules, IsSeating, left_of}
use Rattle.place_peaks.specs.Places.{brings, held_by, is_place, there}
use Rattle.place_peaks.specs.Values.{all_left, values}

-- a standing says of tasks and goods what a state says
pub record IsShown (p : Plan) (st : Standing) (s : State) : Type 0 where
  pub standing : IsStanding p st
  pub phase : (t : ℕ) → phase_of st t ≡ s.phase t
  pub held : (g : ℕ) → held_of st g ≡ s.held g

-- In a state to which the trees are tied, some worker's Regrant is allowed with this order, and the standing shows what
-- comes then.
pub record CanRenew (p : Plan) (b : Peaks) (standing : Standing) (t : ℕ) (ts : List ℕ) : Type 0 where
  pub state : State
  pub worker : ℕ
  pub tied : AreTied p state b
  pub allowed : Allowed p state (Regrant worker t)
  pub order : order_with p state t ≡ Some ts
  pub shown : IsShown p standing (after p state (Regrant worker t))

-- the line of a fresh order: its tasks, and behind them all others
abbrev pub renewed_line : ℕ → List ℕ → List ℕ
renewed_line n ts = ts ++ below n (λ u. not (has ts u))

-- the values of a fresh order at a place, in as many positions as there were
abbrev pub renewed_values : Plan → (ℕ → ℕ) → List ℕ → ℕ → List (Option ℕ) → List (Option ℕ)
renewed_values p size ts q vs = values (there p q) all_left (held_by p size q) [] ts
    ++ replicate (length vs - length (values (there p q) all_left (held_by p size q) [] ts)) None

-- of a place: what it holds after the first k tasks of an order, and its values up to there
pub record IsLevel (p : Plan) (size : ℕ → ℕ) (ts : List ℕ) (q k n : ℕ) (ns : List ℕ) : Type 0 where
  pub level : n ≡ usage p size (take k ts) q
  pub levels : map Some ns ≡ values (there p q) all_left (held_by p size q) [] (take k ts)

-- what a walk along a fresh order takes: the places of its tasks, and what they bring
pub record CanWalk (p : Plan) (at : List (Option ℕ)) (brought held : List ℕ) (st : Standing) (ts : List ℕ) : Type 0 where
  pub limits : IsWithinLimits p
  pub rules : HasRules p
  pub standing : IsStanding p st
  pub small : (g : ℕ) → sizes (held_of st) g ≤ good_size p g
  pub follows : Follows p (phase_of st) ts
  pub homes : (t : ℕ) → t < count_tasks p → get_or at t None ≡ place p t
  pub needs : (t q : ℕ) → has ts t ≡ true → is_clean p t ≡ false → place p t ≡ Some q
      → get_or brought t 0 ≡ brings p (sizes (held_of st)) q t
  pub bases : (q : ℕ) → q < places p → get_or held q 0 ≡ usage p (sizes (held_of st)) [] q

-- A line is that of a fresh order, and its tasks have their places as before.
pub record IsLaid (p : Plan) (old new : Seating) (ts : List ℕ) : Type 0 where
  pub line : task_numbers new.line.items ≡ renewed_line (count_tasks p) ts
  pub homes : new.homes.items ≡ old.homes.items
  pub seated : IsSeating p new

-- A fresh order is kept: its tasks are left, they stand first in the line, and the place of task t holds what t brings.
pub record IsRenewed (p : Plan) (size : ℕ → ℕ) (old new : Peaks) (t : ℕ) (ts : List ℕ) : Type 0 where
  pub same : new ≡ record old { seating = new.seating; left = new.left; first = 0; base = new.base; trees = new.trees }
  pub laid : IsLaid p old.seating new.seating ts
  pub marks_long : length new.left.items ≡ count_tasks p
  pub left : (u : ℕ) → left_of new u ≡ has ts u
  pub bases_long : length new.base.items ≡ length old.base.items
  pub base : (q : ℕ) → get_or new.base.items q 0
      ≡ cond (is_place q (get_or old.seating.homes.items t None))
      (get_or old.base.items q 0 + get_or old.needs.items t 0) (get_or old.base.items q 0)
  pub trees_long : length new.trees.items ≡ length old.trees.items
  pub trees : (q : ℕ) → q < places p
      → get_or new.trees.items q [] ≡ renewed_values p size ts q (get_or old.trees.items q [])
