-- What the Arrive or the End of a task does.
use Rattle.std.specs.Prelude.{◌≡◌, ℕ, ◌+◌, ◌-◌, ◌<◌, ◌≤◌, ◌^◌, cond, List, [], ◌∷◌, length, get_or, Option, Some, None}
use Rattle.plan_core.specs.declared.plan.Plan.{Plan}
use Rattle.plan_core.specs.Numbers.{has}
use Rattle.plan_core.specs.Words.{count_tasks, parents}
use Rattle.storage_simulation.specs.Goods.{good_size, lies_at, makes, places}
use Rattle.storage_simulation.specs.declared.standing.Phase.TheVariants.{Runs}
use Rattle.lease_rules.specs.Legal.{AreDeclared}
use Rattle.lease_rules.specs.State.{State}
use Rattle.place_peaks.specs.declared.links.Links.{Links}
use Rattle.place_peaks.specs.declared.peaks.Peaks.{Peaks}
use Rattle.place_peaks.specs.Peaks.{AreBehind, left_of}
use Rattle.place_peaks.specs.Tree.{AllFirst, CanFall, front_changed}

-- Where a good counts less: in the values before the seat of its Clean, where that is left in the line, else in all.
abbrev pub count_by : Peaks → ℕ → Option ℕ → ℕ
count_by b q None = get_or b.seating.widths.items q 0
count_by b q (Some c) = cond (left_of b c) (get_or b.seating.seats.items c 0) (get_or b.seating.widths.items q 0)

abbrev pub count_at : Peaks → Links → ℕ → ℕ → ℕ
count_at b links q g = count_by b q (get_or links.cleaners.items g None)

-- Goods of these sizes are held at other ones: the list in which the values of each are lowered, the last good first.
abbrev pub settled : Plan → ℕ → (ℕ → ℕ) → (ℕ → ℕ) → List ℕ → List ℕ → List (Option ℕ) → List (Option ℕ)
settled p s count size [] ns vs = vs
settled p s count size (x ∷ xs) [] vs = vs
settled p s count size (x ∷ xs) (n ∷ ns) vs =
    cond (lies_at p x s) (front_changed (count x) (λ m. m - (size x - n)) (settled p s count size xs ns vs))
    (settled p s count size xs ns vs)

-- and what the place holds before the first task
abbrev pub lowered : Plan → ℕ → (ℕ → ℕ) → List ℕ → List ℕ → ℕ → ℕ
lowered p s size [] ns b = b
lowered p s size (x ∷ xs) [] b = b
lowered p s size (x ∷ xs) (n ∷ ns) b = cond (lies_at p x s) (lowered p s size xs ns b - (size x - n))
    (lowered p s size xs ns b)

-- Each place holds less, and the values of its tree are less, by what these goods of these sizes come to.
abbrev pub AreLowered : Plan → Links → Peaks → Peaks → List ℕ → List ℕ → Type 0
AreLowered p links old new xs ns =
    ((q : ℕ) → q < places p → get_or new.base.items q 0
    ≡ lowered p q (good_size p) xs ns (get_or old.base.items q 0))
    × ((q : ℕ) → q < places p
    → get_or new.trees.items q [] ≡ settled p q (count_at old links q) (good_size p) xs ns
    (get_or old.trees.items q []))

-- A task has ended, and what it made is held at these sizes.
pub record IsSettled (p : Plan) (links : Links) (old new : Peaks) (t : ℕ) (ns : List ℕ) : Type 0 where
  pub same : new ≡ record old { missing = new.missing; base = new.base; trees = new.trees }
  pub missing_long : length new.missing.items ≡ length old.missing.items
  pub missing : (u : ℕ) → u < count_tasks p
      → get_or new.missing.items u 1 + cond (has (parents p u) t) 1 0 ≡ get_or old.missing.items u 1
  pub bases_long : length new.base.items ≡ length old.base.items
  pub trees_long : length new.trees.items ≡ length old.trees.items
  pub lowered : AreLowered p links old new (makes p t) ns

-- what only a settling of goods leaves as it was
pub record IsKept (old new : Peaks) : Type 0 where
  pub same : new ≡ record old { base = new.base; trees = new.trees }
  pub bases_long : length new.base.items ≡ length old.base.items
  pub trees_long : length new.trees.items ≡ length old.trees.items

-- so many values of a list, and a number, can be lowered by so much
pub record CanLower (b less count : ℕ) (vs : List (Option ℕ)) : Type 0 where
  pub count_in : count ≤ length vs
  pub less_small : less ≤ 2 ^ 62
  pub base_more : less ≤ b
  pub can_fall : AllFirst count (CanFall less) vs

-- a good can be held at this size at a place
pub record CanSettleOne (p : Plan) (links : Links) (b : Peaks) (q g n : ℕ) : Type 0 where
  pub base_in : q < length b.base.items
  pub tree_in : q < length b.trees.items
  pub size_small : n ≤ good_size p g
  pub can : CanLower (get_or b.base.items q 0) (good_size p g - n) (count_at b links q g)
      (get_or b.trees.items q [])

-- In some state that the trees describe the task runs, and the sizes are within the declared ones.
pub record CanSettle (p : Plan) (links : Links) (b : Peaks) (t : ℕ) (ns : List ℕ) : Type 0 where
  pub state : State
  pub front : List ℕ
  pub tied : AreBehind p state b front
  pub runs : state.phase t ≡ Runs
  pub declared : AreDeclared p (makes p t) ns
