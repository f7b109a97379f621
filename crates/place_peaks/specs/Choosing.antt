-- What the trees are asked before a task of a place begins, and the first task that can begin.
use Rattle.std.specs.Prelude.{◌≡◌, ℕ, ◌≤◌, ◌<◌, min, true, false, [], length, take, get_or, Option, Some, None}
use Rattle.plan_core.specs.declared.plan.Plan.{Plan}
use Rattle.plan_core.specs.Words.{is_clean}
use Rattle.group_index.specs.Index.{group}
use Rattle.storage_simulation.specs.Goods.{place_bound}
use Rattle.peak_tree.specs.Numbers.{greatest}
use Rattle.place_peaks.specs.declared.peaks.Peaks.{Peaks}
use Rattle.place_peaks.specs.Peaks.{left_of, line_of}
use Rattle.place_peaks.specs.Tree.{HasRoom}

-- what task t brings fits below the bound of place q, before the first task and after each before t
abbrev pub HasRoomAt : Peaks → ℕ → ℕ → ℕ → Type 0
HasRoomAt b t q bound = HasRoom (get_or b.needs.items t 0) (get_or b.base.items q 0)
    (greatest (take (get_or b.seating.seats.items t 0) (get_or b.trees.items q []))) bound

-- A task of the line is left, none of its parents is open, and it is a Clean or has room at its place, if it has one.
pub record CanBegin (p : Plan) (b : Peaks) (t : ℕ) : Type 0 where
  pub left : left_of b t ≡ true
  pub none_open : get_or b.missing.items t 1 ≡ 0
  pub room : (q : ℕ) → is_clean p t ≡ false → get_or b.seating.homes.items t None ≡ Some q
      → HasRoomAt b t q (place_bound p q)

-- No task at one of some positions can begin, or a task that can stands at this one, which isn't behind any of them.
pub record IsFirstAt (p : Plan) (b : Peaks) (some : ℕ → Type 0) (k : ℕ) : Type 0 where
  pub within : k < length (line_of b)
  pub can : CanBegin p b (get_or (line_of b) k 0)
  pub first : (j : ℕ) → j < length (line_of b) → some j → CanBegin p b (get_or (line_of b) j 0) → k ≤ j

abbrev pub IsFirst : Plan → Peaks → (ℕ → Type 0) → Option ℕ → Type 0
IsFirst p b some None = (j : ℕ) → j < length (line_of b) → some j → CanBegin p b (get_or (line_of b) j 0) → ⊥
IsFirst p b some (Some k) = IsFirstAt p b some k

-- the positions of a group, and of the groups below a number
abbrev pub InGroup : Peaks → ℕ → ℕ → Type 0
InGroup b g k = group b.ready.index k ≡ g

abbrev pub InGroupBelow : Peaks → ℕ → ℕ → Type 0
InGroupBelow b n k = group b.ready.index k < n

abbrev pub AtAll : ℕ → Type 0
AtAll k = Unit {0}

-- the first of two positions
abbrev pub earlier : Option ℕ → Option ℕ → Option ℕ
earlier None y = y
earlier (Some j) None = Some j
earlier (Some j) (Some k) = Some (min j k)
