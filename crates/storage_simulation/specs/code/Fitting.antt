-- Beside `specs/Fitting.antt`: what the code's own contracts say.
use Rattle.std.specs.Prelude.{◌≡◌, ℕ, ◌+◌, ◌<◌, ◌≤◌, List, length, take, get_or}
use Rattle.plan_core.specs.declared.plan.Plan.{Plan}
use Rattle.storage_simulation.specs.declared.fitting.Exceeds.{Exceeds}
use Rattle.storage_simulation.specs.Goods.{places, place_bound}
use Rattle.storage_simulation.specs.Usage.{usage, IsWithin}

-- The task in this position is the first after which a bound is passed, and the place is the first whose bound is.
pub record IsFirstPast (p : Plan) (size : ℕ → ℕ) (order : List ℕ) (e : Exceeds) : Type 0 where
  pub position : ℕ
  pub in_order : position < length order
  pub task_is : e.task.0 ≡ get_or order position 0
  pub before : (k : ℕ) → k ≤ position → IsWithin p size (take k order)
  pub site_is : e.site.0 < places p
  pub first : (s : ℕ) → s < e.site.0 → usage p size (take (position + 1) order) s ≤ place_bound p s
  pub needed_is : e.needed ≡ usage p size (take (position + 1) order) e.site.0
  pub bound_is : e.bound ≡ place_bound p e.site.0
  pub passes : e.bound < e.needed
