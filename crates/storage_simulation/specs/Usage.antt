-- Usage of a place after a front, where so much of each good is held.
use Rattle.std.specs.Prelude.{ℕ, ◌+◌, ◌<◌, ◌≤◌, Bool, cond, List, [], ◌∷◌}
use Rattle.std.specs.List.{list_any}
use Rattle.values.specs.Numbers.{total}
use Rattle.plan_core.specs.declared.plan.Plan.{Plan}
use Rattle.plan_core.specs.Numbers.{has}
use Rattle.plan_core.specs.Words.{cleans}
use Rattle.storage_simulation.specs.Goods.{goods, good_size, lies_at, makes, places, place_bound}

-- the sum of w over a list
abbrev pub sum_of : (ℕ → ℕ) → List ℕ → ℕ
sum_of w [] = 0
sum_of w (g ∷ gs) = w g + sum_of w gs

-- a task of the front makes, or cleans, the good
abbrev pub made : Plan → List ℕ → ℕ → Bool
made p front g = list_any (λ t. has (makes p t) g) front

abbrev pub cleaned : Plan → List ℕ → ℕ → Bool
cleaned p front g = list_any (λ t. cleans p t g) front

-- What a good counts: nothing where the front cleans it, its declared size where the front makes it, else what is held.
abbrev pub weight : Plan → (ℕ → ℕ) → List ℕ → ℕ → ℕ
weight p size front g = cond (cleaned p front g) 0 (cond (made p front g) (good_size p g) (size g))

abbrev pub usage_of_good : Plan → (ℕ → ℕ) → List ℕ → ℕ → ℕ → ℕ
usage_of_good p size front s g = cond (lies_at p g s) (weight p size front g) 0

abbrev pub usage : Plan → (ℕ → ℕ) → List ℕ → ℕ → ℕ
usage p size front s = total (goods p) (usage_of_good p size front s)

-- no place holds more than its bound
abbrev pub IsWithin : Plan → (ℕ → ℕ) → List ℕ → Type 0
IsWithin p size front = (s : ℕ) → s < places p → usage p size front s ≤ place_bound p s
