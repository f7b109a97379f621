-- What the lists of a front say of the tasks that are placed.
use Rattle.std.specs.Prelude.{◌≡◌, ℕ, ◌≤◌, ◌<◌, true, cond, List, length, get_or, Some, vec_capacity}
use Rattle.digraph.specs.code.Digraph.{count, edge}
use Rattle.plan_core.specs.declared.plan.Plan.{Plan}
use Rattle.plan_core.specs.code.Numbers.{RisesFrom}
use Rattle.plan_core.specs.Numbers.{has}
use Rattle.plan_core.specs.Words.{cleans, count_pairs, count_tasks, parents, task_numbers, writes}
use Rattle.storage_simulation.specs.declared.standing.Standing.{Standing}
use Rattle.storage_simulation.specs.declared.front.Front.{Front}
use Rattle.storage_simulation.specs.code.Goods.{IsWithinLimits, place}
use Rattle.storage_simulation.specs.Goods.{lies_at, makes, places}
use Rattle.storage_simulation.specs.code.Standings.{IsStanding}
use Rattle.storage_simulation.specs.Usage.{sum_of, usage, IsWithin}
use Rattle.storage_simulation.specs.code.Law.{KeepsGoods}
use Rattle.storage_simulation.specs.Ordering.{Progress, size, is_done}
use Rattle.storage_simulation.specs.code.Ordering.{progress, AreSteps, IsPeak}

-- how many parents of a task aren't placed, don't run and haven't ended
abbrev pub missing : Plan → Progress → List ℕ → ℕ → ℕ
missing p st front t = sum_of (λ u. cond (is_done st front u) 0 1) (parents p t)

abbrev pub front_of : Front → List ℕ
front_of b = task_numbers b.placed.items

-- a front has room for each task and place of the plan, and its graph leads from each parent to its child
pub record IsFrontFor (p : Plan) (b : Front) : Type 0 where
  pub room : count_tasks p ≤ vec_capacity b.placed
  pub done_long : length b.done.items ≡ count_tasks p
  pub missing_long : length b.missing.items ≡ count_tasks p
  pub used_long : length b.used.items ≡ places p
  pub peaks_long : length b.peaks.items ≡ places p
  pub nodes : count b.graph ≡ count_tasks p
  pub edges : (u t : ℕ) → edge b.graph u t ≡ has (parents p t) u

-- for every number the value in a list is the definition's
pub record IsFront (p : Plan) (st : Progress) (b : Front) : Type 0 where
  pub steps : AreSteps p st (front_of b)
  pub within : IsWithin p (size st) (front_of b)
  pub done_is : (t : ℕ) → t < count_tasks p → get_or b.done.items t true ≡ is_done st (front_of b) t
  pub missing_is : (t : ℕ) → t < count_tasks p → get_or b.missing.items t 0 ≡ missing p st (front_of b) t
  pub used_is : (s : ℕ) → s < places p → get_or b.used.items s 0 ≡ usage p (size st) (front_of b) s
  pub peaks_are : (s : ℕ) → s < places p → IsPeak p st (front_of b) s (get_or b.peaks.items s 0)

-- what an order takes of a proper plan
pub record IsOrderable (p : Plan) : Type 0 where
  pub keeps : KeepsGoods p
  pub parents_rise : (t : ℕ) → RisesFrom 0 (parents p t)
  pub parents_below : (t u : ℕ) → has (parents p t) u ≡ true → u < count_tasks p
  pub writes_rise : (t : ℕ) → RisesFrom 0 (writes p t)
  pub writes_below : (t q : ℕ) → has (writes p t) q ≡ true → q < count_pairs p
  pub makes_there : (t g s : ℕ) → s < places p → has (makes p t) g ≡ true → lies_at p g s ≡ true
      → place p t ≡ Some s
  pub cleans_there : (t g s : ℕ) → s < places p → cleans p t g ≡ true → lies_at p g s ≡ true
      → place p t ≡ Some s
  pub place_below : (t s : ℕ) → place p t ≡ Some s → s < places p

-- what the steps ask of plan, standing and front
pub record IsSet (p : Plan) (st : Standing) (b : Front) : Type 0 where
  pub orderable : IsOrderable p
  pub limits : IsWithinLimits p
  pub standing : IsStanding p st
  pub made_for : IsFrontFor p b
  pub front : IsFront p (progress st) b
