-- What the trees of a line of tasks say of a state.
use Rattle.std.specs.Prelude.{◌≡◌, ℕ, ◌<◌, Bool, true, false, cond, List, [], ◌++◌, length, take, filter, get_or, Some, None}
use Rattle.plan_core.specs.declared.plan.Plan.{Plan}
use Rattle.plan_core.specs.Numbers.{has}
use Rattle.plan_core.specs.Words.{count_tasks, is_clean, parents, task_numbers}
use Rattle.storage_simulation.specs.Following.{AreOnce}
use Rattle.storage_simulation.specs.code.Goods.{place}
use Rattle.storage_simulation.specs.Goods.{places}
use Rattle.storage_simulation.specs.code.Law.{KeepsGoods}
use Rattle.storage_simulation.specs.Standings.{sizes}
use Rattle.storage_simulation.specs.declared.standing.Phase.{Phase}
use Rattle.storage_simulation.specs.Usage.{sum_of, usage}
use Rattle.lease_rules.specs.Choice.{HaveParentsEnded}
use Rattle.lease_rules.specs.code.Law.{HasStorageLaws, IsSoundState}
use Rattle.lease_rules.specs.State.{State, ended}
use Rattle.place_peaks.specs.declared.peaks.Peaks.{Peaks}
use Rattle.place_peaks.specs.declared.seating.Seating.{Seating}
use Rattle.place_peaks.specs.Places.{AreSeats, ChangesOnePlace, brings, held_by, there}
use Rattle.place_peaks.specs.Stack.{stacked}
use Rattle.place_peaks.specs.Values.{values}

abbrev pub is_left : List Bool → ℕ → Bool
is_left marks t = get_or marks t false

abbrev pub line_of : Peaks → List ℕ
line_of b = task_numbers b.seating.line.items

abbrev pub left_of : Peaks → ℕ → Bool
left_of b = is_left b.left.items

-- the tasks that wait again, the first of rest first
abbrev pub stack_of : Peaks → List ℕ
stack_of b = stacked (task_numbers b.again.items) []

-- each seat of a task of the line is in its tree
abbrev pub AreSeated : Peaks → Type 0
AreSeated b = (k q : ℕ) → k < length (line_of b)
    → get_or b.seating.homes.items (get_or (line_of b) k 0) None ≡ Some q
    → get_or b.seating.seats.items (get_or (line_of b) k 0) 0 < length (get_or b.trees.items q [])

-- no task of the line before the front is left
abbrev pub HasPassed : Peaks → Type 0
HasPassed b = filter (left_of b) (take b.first (line_of b)) ≡ []

-- how many parents of a task haven't ended
abbrev pub open_parents : Plan → (ℕ → Phase) → ℕ → ℕ
open_parents p phase t = sum_of (λ u. cond (ended (phase u)) 0 1) (parents p t)

-- what a proper plan keeps to
pub record HasRules (p : Plan) : Type 0 where
  pub laws : HasStorageLaws p
  pub keeps : KeepsGoods p
  pub one : ChangesOnePlace p

-- The line has each task of the plan once. Of each task: its place, and how many tasks of that place stand before it; of
-- each place: how many tasks change it.
pub record IsSeating (p : Plan) (x : Seating) : Type 0 where
  pub once : AreOnce (task_numbers x.line.items)
  pub in_plan : (t : ℕ) → has (task_numbers x.line.items) t ≡ true → t < count_tasks p
  pub all : (t : ℕ) → t < count_tasks p → has (task_numbers x.line.items) t ≡ true
  pub homes : (t : ℕ) → t < count_tasks p → get_or x.homes.items t None ≡ place p t
  pub counted : AreSeats p (task_numbers x.line.items) x.seats.items x.widths.items
      (length (task_numbers x.line.items))

-- Rest is a front of tasks that wait again, and then the tasks of the line that have a mark. Of each of these: what it
-- brings, and whether its parents have ended. Of each place: what it holds, and the values of the line there behind that
-- front.
pub record AreBehind (p : Plan) (s : State) (b : Peaks) (front : List ℕ) : Type 0 where
  pub rules : HasRules p
  pub sound : IsSoundState p s
  pub seated : IsSeating p b.seating
  pub marked : (t : ℕ) → left_of b t ≡ true → has (line_of b) t ≡ true
  pub marks_long : length b.left.items ≡ count_tasks p
  pub bases_long : length b.base.items ≡ places p
  pub trees_long : length b.trees.items ≡ places p
  pub rest : s.rest ≡ front ++ filter (left_of b) (line_of b)
  pub waiting : (t : ℕ) → has front t ≡ true → HaveParentsEnded p s t
  pub needs : (t q : ℕ) → has s.rest t ≡ true → is_clean p t ≡ false → place p t ≡ Some q
      → get_or b.needs.items t 0 ≡ brings p (sizes s.held) q t
  pub missing_long : length b.missing.items ≡ count_tasks p
  pub counts : (t : ℕ) → t < count_tasks p → get_or b.missing.items t 1 ≡ open_parents p s.phase t
  pub bases : (q : ℕ) → q < places p → get_or b.base.items q 0 ≡ usage p (sizes s.held) [] q
  pub trees : (q : ℕ) → q < places p
      → get_or b.trees.items q [] ≡ values (there p q) (left_of b) (held_by p (sizes s.held) q) front
      (line_of b)

-- the same where no task waits again
abbrev pub ArePeaks : Plan → State → Peaks → Type 0
ArePeaks p s b = AreBehind p s b []
