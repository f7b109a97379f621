-- What plan_core promises of a proper plan, and what a store shows of a record.
use Rattle.std.specs.Prelude.{◌≡◌, ℕ, true, List, Option, is_some}
use Rattle.plan_core.specs.declared.plan.Plan.{Plan}
use Rattle.plan_core.specs.Words.{delivers}

abbrev pub IsDeliveryOf : Plan → (ℕ → ℕ → Option (List ℕ)) → ℕ → Option (List ℕ) → Type 0
IsDeliveryOf p c f x = (t : ℕ) × (delivers p t f ≡ true) × (x ≡ c t f) × (is_some x ≡ true)
