-- What becomes of a task that is to be tried again.
use Rattle.std.specs.Prelude.{◌≡◌, ℕ, ◌-◌, ◌==◌, ◌&&◌, ◌<◌, ◌≤◌, ◌^◌, cond, not, List, [], length, get_or, set, Option, None, vec_capacity}
use Rattle.plan_core.specs.declared.plan.Plan.{Plan}
use Rattle.plan_core.specs.Words.{count_tasks}
use Rattle.place_peaks.specs.declared.peaks.Peaks.{Peaks}
use Rattle.place_peaks.specs.Cleaning.{CanGive}
use Rattle.place_peaks.specs.Peaks.{HasPassed, left_of}
use Rattle.place_peaks.specs.Places.{is_place}
use Rattle.place_peaks.specs.Tree.{AllFirst, CanFall, front_changed}

-- the stack has room for every task
abbrev pub HasStackRoom : Plan → Peaks → Type 0
HasStackRoom p b = count_tasks p ≤ vec_capacity b.again

-- A task that ran waits again: it stands on the stack, and brings nothing.
pub record IsAgain (old new : Peaks) (t : ℕ) : Type 0 where
  pub same : new ≡ record old { needs = new.needs; again = new.again }
  pub needs : (u : ℕ) → get_or new.needs.items u 0 ≡ cond (t == u) 0 (get_or old.needs.items u 0)

-- A Clean of the line goes to the stack: it isn't left in the line, and its place holds so much less before all that
-- stands before it, as if it were done.
pub record IsMoved (old new : Peaks) (t frees : ℕ) : Type 0 where
  pub same : new ≡ record old { left = new.left; again = new.again; first = new.first; trees = new.trees }
  pub marks_long : length new.left.items ≡ length old.left.items
  pub trees_long : length new.trees.items ≡ length old.trees.items
  pub left : (u : ℕ) → left_of new u ≡ (left_of old u && not (t == u))
  pub trees : (q : ℕ) → get_or new.trees.items q []
      ≡ cond (is_place q (get_or old.seating.homes.items t None))
      (set (front_changed (get_or old.seating.seats.items t 0) (λ n. n - frees) (get_or old.trees.items q []))
      (get_or old.seating.seats.items t 0) None) (get_or old.trees.items q [])
  pub passed : HasPassed old → HasPassed new

-- the fronts of a place before a seat hold so much
pub record CanSweepAt (trees : List (List (Option ℕ))) (q seat frees : ℕ) : Type 0 where
  pub tree_in : q < length trees
  pub seat_in : seat < length (get_or trees q [])
  pub frees_small : frees ≤ 2 ^ 62
  pub can_fall : AllFirst seat (CanFall frees) (get_or trees q [])

-- the place of a Clean holds what the Clean frees
pub record CanFree (b : Peaks) (t q frees : ℕ) : Type 0 where
  pub gives : CanGive b.base.items q frees
  pub sweeps : CanSweepAt b.trees.items q (get_or b.seating.seats.items t 0) frees
