-- Order as a function of the plan and the standing.
use Rattle.std.specs.Prelude.{ℕ, zero, suc, ◌+◌, ◌&&◌, Bool, true, false, cond, not, leb, nat_lt, List, [], ◌∷◌, ◌++◌, Option, Some, None}
use Rattle.plan_core.specs.declared.plan.Plan.{Plan}
use Rattle.plan_core.specs.Numbers.{least, or_else}
use Rattle.plan_core.specs.Words.{count_tasks, is_clean}
use Rattle.storage_simulation.specs.Goods.{place_bound, places}
use Rattle.storage_simulation.specs.Usage.{usage}
use Rattle.storage_simulation.specs.Following.{is_ready}
use Rattle.storage_simulation.specs.Ordering.{Progress, comes, goes, is_done, size}

abbrev pub all_below : ℕ → (ℕ → Bool) → Bool
all_below zero test = true
all_below (suc n) test = all_below n test && test n

-- of the numbers below n that pass, the first than which no other is less
abbrev pub first_of : Option ℕ → Bool → ℕ → (ℕ → ℕ → Bool) → Option ℕ
first_of o false n less = o
first_of None true n less = Some n
first_of (Some b) true n less = cond (less n b) (Some n) (Some b)

abbrev pub best_below : ℕ → (ℕ → Bool) → (ℕ → ℕ → Bool) → Option ℕ
best_below zero test less = None
best_below (suc n) test less = first_of (best_below n test less) (test n) n less

abbrev pub is_open : Plan → Progress → List ℕ → ℕ → Bool
is_open p st front t = not (is_done st front t) && is_ready p st.phase front t

abbrev pub fits_after : Plan → Progress → List ℕ → ℕ → Bool
fits_after p st front t = all_below (places p)
    (λ s. leb (usage p (size st) (front ++ t ∷ []) s) (place_bound p s))

-- the task that is placed next: the lowest ready Clean, else of the ready tasks that fit the first by `less`
abbrev pub step : Plan → Progress → (List ℕ → ℕ → ℕ → Bool) → List ℕ → Option ℕ
step p st less front =
    or_else (least (count_tasks p) (λ t. is_open p st front t && is_clean p t))
    (best_below (count_tasks p) (λ t. is_open p st front t && fits_after p st front t) (less front))

abbrev pub all_placed : Plan → Progress → List ℕ → Bool
all_placed p st front = all_below (count_tasks p) (is_done st front)

abbrev pub and_then : Option ℕ → (ℕ → Option (List ℕ)) → Option (List ℕ)
and_then None f = None
and_then (Some t) f = f t

abbrev pub go_on : Plan → Progress → (List ℕ → ℕ → ℕ → Bool) → ℕ → List ℕ → Option (List ℕ)
go_on p st less zero front = cond (all_placed p st front) (Some front) None
go_on p st less (suc n) front = cond (all_placed p st front) (Some front)
    (and_then (step p st less front) (λ t. go_on p st less n (front ++ t ∷ [])))

-- as many steps as there are tasks are enough
abbrev pub order_by : Plan → Progress → (List ℕ → ℕ → ℕ → Bool) → Option (List ℕ)
order_by p st less = go_on p st less (count_tasks p) []

-- of less score: what comes less what goes, compared crosswise
abbrev pub less_by_score : Plan → Progress → List ℕ → ℕ → ℕ → Bool
less_by_score p st front t u = nat_lt (comes p st t + goes p st front u) (comes p st u + goes p st front t)

-- Order, or none where it is Exceeds
abbrev pub stated_order : Plan → Progress → Option (List ℕ)
stated_order p st = order_by p st (less_by_score p st)
