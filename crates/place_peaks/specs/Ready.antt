-- Which tasks can be asked for room: those of the line that are left and of which no parent is open.
use Rattle.std.specs.Prelude.{◌≡◌, ℕ, ◌+◌, ◌<◌, ◌≤◌, ◌^◌, ◌==◌, ◌&&◌, Bool, false, cond, not, List, map, length, get_or, Option, Some, None}
use Rattle.plan_core.specs.declared.plan.Plan.{Plan}
use Rattle.plan_core.specs.Words.{count_tasks, is_clean, task_numbers}
use Rattle.group_index.specs.Index.{IsIndex, number}
use Rattle.storage_simulation.specs.Goods.{places}
use Rattle.place_peaks.specs.declared.peaks.Peaks.{Peaks}
use Rattle.place_peaks.specs.declared.ready.Ready.{Ready}
use Rattle.place_peaks.specs.declared.seating.Seating.{Seating}
use Rattle.place_peaks.specs.Peaks.{IsSeating, left_of, line_of}

-- the group of a task: its place, or one number more
abbrev pub group_of : ℕ → Option ℕ → ℕ
group_of last None = last
group_of last (Some q) = q

-- those of the tasks of a line
abbrev pub groups_of : ℕ → List (Option ℕ) → List ℕ → List ℕ
groups_of last homes line = map (λ t. group_of last (get_or homes t None)) line

-- the less a task needs, the less its score; what can begin in any case has none
abbrev pub score_of : Bool → ℕ → Option ℕ → ℕ
score_of clean need None = 0
score_of clean need (Some q) = cond clean 0 (need + 1)

abbrev pub score : Plan → Peaks → ℕ → ℕ
score p b t = score_of (is_clean p t) (get_or b.needs.items t 0) (get_or b.seating.homes.items t None)

abbrev pub is_ready : Peaks → ℕ → Bool
is_ready b t = left_of b t && (get_or b.missing.items t 1 == 0)

abbrev pub ready_score : Plan → Peaks → ℕ → Option ℕ
ready_score p b t = cond (is_ready b t) (Some (score p b t)) None

abbrev pub position : Ready → ℕ → ℕ
position r t = get_or r.positions.items t 0

-- The index has the positions of a line, each in the group of its task, and of each task its position.
pub record AreGrouped (p : Plan) (line : List ℕ) (homes : List (Option ℕ)) (r : Ready) : Type 0 where
  pub index : IsIndex r.index
  pub few : length line < 2 ^ 32
  pub trees_long : length r.index.trees.items ≡ places p + 1
  pub groups_long : length r.groups.items ≡ length line
  pub positions_long : length r.positions.items ≡ count_tasks p
  pub placed : (k : ℕ) → k < length line → position r (get_or line k 0) ≡ k
  pub in_plan : (k : ℕ) → k < length line → get_or line k 0 < count_tasks p
  pub low : (t q : ℕ) → t < count_tasks p → get_or homes t None ≡ Some q → q < places p
  pub groups : r.index.groups.items ≡ groups_of (places p) homes line

-- it had the positions of another line of the same tasks
pub record WasGrouped (p : Plan) (x : Seating) (r : Ready) : Type 0 where
  pub before : Seating
  pub seated : IsSeating p before
  pub homes : x.homes.items ≡ before.homes.items
  pub grouped : AreGrouped p (task_numbers before.line.items) before.homes.items r

abbrev pub HasGroups : Plan → Peaks → Type 0
HasGroups p b = AreGrouped p (line_of b) b.seating.homes.items b.ready

-- a task can't need more than this
abbrev pub AreSmall : Peaks → Type 0
AreSmall b = (t : ℕ) → get_or b.needs.items t 0 ≤ 2 ^ 62

-- The scores of all tasks of the line are right, but for some.
abbrev pub IsIndexedBut : Plan → Peaks → (ℕ → Bool) → Type 0
IsIndexedBut p b off = (k : ℕ) → k < length (line_of b) → off (get_or (line_of b) k 0) ≡ false
    → number b.ready.index k ≡ ready_score p b (get_or (line_of b) k 0)

-- of two tasks of a place the first has no later seat
abbrev pub AreRising : List ℕ → List (Option ℕ) → List ℕ → Type 0
AreRising line homes seats = (j k q : ℕ) → j < k → k < length line
    → get_or homes (get_or line j 0) None ≡ Some q → get_or homes (get_or line k 0) None ≡ Some q
    → get_or seats (get_or line j 0) 0 ≤ get_or seats (get_or line k 0) 0

-- the index is right for all tasks, and seats rise along the line at each place
pub record IsIndexed (p : Plan) (b : Peaks) : Type 0 where
  pub grouped : HasGroups p b
  pub small : AreSmall b
  pub rising : AreRising (line_of b) b.seating.homes.items b.seating.seats.items
  pub scores : IsIndexedBut p b (λ t. false)

-- the same trees with another index
abbrev pub with_ready : Peaks → Ready → Peaks
with_ready b r = record b { ready = r }

-- the scores of a task, and of some tasks, are right besides
abbrev pub but_one : (ℕ → Bool) → ℕ → ℕ → Bool
but_one off t u = off u && not (u == t)

abbrev pub but_some : (ℕ → Bool) → (ℕ → Bool) → ℕ → Bool
but_some off now u = off u && not (now u)
