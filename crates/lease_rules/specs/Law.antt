-- What holds of each Legal record, and what keeps it so.
use Rattle.std.specs.Prelude.{ℕ, cond}
use Rattle.values.specs.Numbers.{total}
use Rattle.plan_core.specs.declared.plan.Plan.{Plan}
use Rattle.storage_simulation.specs.declared.standing.Held.{Held}
use Rattle.storage_simulation.specs.Goods.{goods, lies_at}
use Rattle.storage_simulation.specs.Ordering.{size}
use Rattle.lease_rules.specs.State.{reserved_size, stored_size}

-- the sums of what is stored, and of what is reserved, at a place
abbrev pub sum_at : Plan → (Held → ℕ) → (ℕ → Held) → ℕ → ℕ
sum_at p size held s = total (goods p) (λ g. cond (lies_at p g s) (size (held g)) 0)

abbrev pub stored_at : Plan → (ℕ → Held) → ℕ → ℕ
stored_at p held s = sum_at p stored_size held s

abbrev pub reserved_at : Plan → (ℕ → Held) → ℕ → ℕ
reserved_at p held s = sum_at p reserved_size held s
