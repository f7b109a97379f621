-- What the grant of a task does, and what it takes.
use Rattle.std.specs.Prelude.{◌≡◌, ℕ, ◌+◌, ◌^◌, ◌==◌, ◌&&◌, ◌<◌, ◌≤◌, cond, not, List, [], length, get_or, set, Option, None}
use Rattle.place_peaks.specs.declared.peaks.Peaks.{Peaks}
use Rattle.place_peaks.specs.Peaks.{HasPassed, left_of}
use Rattle.place_peaks.specs.Places.{is_place}
use Rattle.place_peaks.specs.Tree.{AllFirst, CanRise, front_changed}

-- A task of the line has started: it isn't left any more, and its place holds so much more before all that stands before it.
pub record IsGranted (old new : Peaks) (t : ℕ) : Type 0 where
  pub same : new ≡ record old { left = new.left; first = new.first; base = new.base; trees = new.trees }
  pub marks_long : length new.left.items ≡ length old.left.items
  pub bases_long : length new.base.items ≡ length old.base.items
  pub trees_long : length new.trees.items ≡ length old.trees.items
  pub left : (u : ℕ) → left_of new u ≡ (left_of old u && not (t == u))
  pub base : (q : ℕ) → get_or new.base.items q 0
      ≡ cond (is_place q (get_or old.seating.homes.items t None))
      (get_or old.base.items q 0 + get_or old.needs.items t 0) (get_or old.base.items q 0)
  pub trees : (q : ℕ) → get_or new.trees.items q []
      ≡ cond (is_place q (get_or old.seating.homes.items t None))
      (set (front_changed (get_or old.seating.seats.items t 0) (λ n. n + get_or old.needs.items t 0)
      (get_or old.trees.items q [])) (get_or old.seating.seats.items t 0) None) (get_or old.trees.items q [])
  pub passed : HasPassed old → HasPassed new

-- a place can hold so much more, and so can each of its fronts before a seat
pub record CanHold (base : List ℕ) (q need : ℕ) : Type 0 where
  pub base_in : q < length base
  pub base_small : get_or base q 0 + need ≤ 2 ^ 62

pub record CanStartAt (trees : List (List (Option ℕ))) (q seat need : ℕ) : Type 0 where
  pub tree_in : q < length trees
  pub seat_in : seat < length (get_or trees q [])
  pub need_small : need ≤ 2 ^ 62
  pub can_rise : AllFirst seat (CanRise need) (get_or trees q [])

-- the place of the task can take what the task brings
pub record CanGrant (b : Peaks) (t q : ℕ) : Type 0 where
  pub holds : CanHold b.base.items q (get_or b.needs.items t 0)
  pub starts : CanStartAt b.trees.items q (get_or b.seating.seats.items t 0) (get_or b.needs.items t 0)

-- The first task of the stack has started: it stands there no more, and its place holds so much more.
pub record IsGrantedAgain (old new : Peaks) (t : ℕ) : Type 0 where
  pub same : new ≡ record old { again = new.again; base = new.base }
  pub bases_long : length new.base.items ≡ length old.base.items
  pub base : (q : ℕ) → get_or new.base.items q 0
      ≡ cond (is_place q (get_or old.seating.homes.items t None))
      (get_or old.base.items q 0 + get_or old.needs.items t 0) (get_or old.base.items q 0)
