-- What changes with a task more.
use Rattle.std.specs.Prelude.{◌≡◌, ◌≢◌, ℕ, ◌<◌, ◌==◌, cond, nat_lt, List, [], ◌∷◌, ◌++◌, Option, Some, None}
use Rattle.plan_core.specs.declared.plan.Plan.{Plan}
use Rattle.storage_simulation.specs.declared.placing.Change.{Change}
use Rattle.storage_simulation.specs.Goods.{places}
use Rattle.storage_simulation.specs.Ordering.{Progress, size}
use Rattle.storage_simulation.specs.Usage.{usage}

-- the usages that change with a task: none, or that of one place
abbrev pub IsChange : Plan → Progress → List ℕ → ℕ → Option Change → Type 0
IsChange p st front t None = (s : ℕ) → s < places p
    → usage p (size st) (front ++ t ∷ []) s ≡ usage p (size st) front s
IsChange p st front t (Some c) = (c.place < places p) × (c.used ≡ usage p (size st) (front ++ t ∷ []) c.place)
    × ((s : ℕ) → s < places p → s ≢ c.place
    → usage p (size st) (front ++ t ∷ []) s ≡ usage p (size st) front s)

abbrev pub changed : Option Change → ℕ → ℕ → ℕ
changed None s x = x
changed (Some c) s x = cond (s == c.place) c.used x

abbrev pub raised : Option Change → ℕ → ℕ → ℕ
raised None s x = x
raised (Some c) s x = cond (s == c.place) (cond (nat_lt x c.used) c.used x) x
