-- What a Clean does.
use Rattle.std.specs.Prelude.{◌≡◌, ℕ, ◌+◌, ◌-◌, ◌==◌, ◌&&◌, ◌<◌, ◌≤◌, true, cond, not, List, [], length, get_or, set, None}
use Rattle.plan_core.specs.declared.plan.Plan.{Plan}
use Rattle.plan_core.specs.Numbers.{has}
use Rattle.plan_core.specs.Words.{count_tasks, parents}
use Rattle.place_peaks.specs.declared.peaks.Peaks.{Peaks}
use Rattle.place_peaks.specs.Peaks.{HasPassed, left_of}
use Rattle.place_peaks.specs.Places.{is_place}
use Rattle.place_peaks.specs.Tree.{front_changed}

-- A Clean of the line is done: it isn't left any more, its place holds so much less before all that stands before it, and
-- each task that waited for it has one open parent less.
pub record IsSwept (p : Plan) (old new : Peaks) (t frees : ℕ) : Type 0 where
  pub same : new ≡ record old { left = new.left; missing = new.missing; first = new.first; base = new.base; trees = new.trees }
  pub missing_long : length new.missing.items ≡ length old.missing.items
  pub missing : (u : ℕ) → u < count_tasks p
      → get_or new.missing.items u 1 + cond (has (parents p u) t) 1 0 ≡ get_or old.missing.items u 1
  pub marks_long : length new.left.items ≡ length old.left.items
  pub bases_long : length new.base.items ≡ length old.base.items
  pub trees_long : length new.trees.items ≡ length old.trees.items
  pub left : (u : ℕ) → left_of new u ≡ (left_of old u && not (t == u))
  pub base : (q : ℕ) → get_or new.base.items q 0
      ≡ cond (is_place q (get_or old.seating.homes.items t None)) (get_or old.base.items q 0 - frees)
      (get_or old.base.items q 0)
  pub trees : (q : ℕ) → get_or new.trees.items q []
      ≡ cond (is_place q (get_or old.seating.homes.items t None))
      (set (front_changed (get_or old.seating.seats.items t 0) (λ n. n - frees) (get_or old.trees.items q []))
      (get_or old.seating.seats.items t 0) None) (get_or old.trees.items q [])
  pub passed : HasPassed old → HasPassed new

-- A Clean that is the first task of the stack is done: it stands there no more, its place holds so much less, and each
-- task that waited for it has one open parent less.
pub record IsSweptAgain (p : Plan) (old new : Peaks) (t frees : ℕ) : Type 0 where
  pub same : new ≡ record old { missing = new.missing; again = new.again; base = new.base }
  pub missing_long : length new.missing.items ≡ length old.missing.items
  pub missing : (u : ℕ) → u < count_tasks p
      → get_or new.missing.items u 1 + cond (has (parents p u) t) 1 0 ≡ get_or old.missing.items u 1
  pub bases_long : length new.base.items ≡ length old.base.items
  pub base : (q : ℕ) → get_or new.base.items q 0
      ≡ cond (is_place q (get_or old.seating.homes.items t None)) (get_or old.base.items q 0 - frees)
      (get_or old.base.items q 0)

-- each task that waits for task t has an open parent
pub record CanEnd (p : Plan) (missing : List ℕ) (t : ℕ) : Type 0 where
  pub long : length missing ≡ count_tasks p
  pub open_parent : (u : ℕ) → u < count_tasks p → has (parents p u) t ≡ true → 0 < get_or missing u 1

-- a place holds so much
pub record CanGive (base : List ℕ) (q frees : ℕ) : Type 0 where
  pub base_in : q < length base
  pub base_more : frees ≤ get_or base q 0
