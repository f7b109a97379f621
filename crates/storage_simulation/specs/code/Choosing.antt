-- Which task is placed next.
use Rattle.std.specs.Prelude.{ℕ, List}
use Rattle.plan_core.specs.declared.plan.Plan.{Plan}
use Rattle.storage_simulation.specs.declared.choosing.Next.{Next}
use Rattle.storage_simulation.specs.declared.choosing.Next.TheVariants.{Place, Done, Stuck}
use Rattle.storage_simulation.specs.Ordering.{Progress}
use Rattle.storage_simulation.specs.code.Ordering.{IsOpen, IsStep, IsStuck}

-- what comes next after a front
abbrev pub IsNext : Plan → Progress → List ℕ → Next → Type 0
IsNext p st front (Place t) = IsStep p st front t.0
IsNext p st front Done = (u : ℕ) → IsOpen p st front u → ⊥
IsNext p st front (Stuck e) = IsStuck p st front e
