-- Orders that fit a standing, and the first front of an order that doesn't.
use Rattle.std.specs.Prelude.{◌≡◌, ℕ, ◌<◌, ◌≤◌, true, List, length, take, get_or}
use Rattle.plan_core.specs.declared.plan.Plan.{Plan}
use Rattle.plan_core.specs.Numbers.{has}
use Rattle.plan_core.specs.Words.{count_tasks}
use Rattle.storage_simulation.specs.declared.standing.Held.{Held}
use Rattle.storage_simulation.specs.declared.standing.Phase.{Phase}
use Rattle.storage_simulation.specs.Standings.{sizes, waits}
use Rattle.storage_simulation.specs.Usage.{IsWithin}
use Rattle.storage_simulation.specs.Following.{AreOnce, IsReady}

-- An order fits where no place holds more than its bound before its first task and after each, and each task's
-- parents stand earlier in it, run or have ended.
pub record Fits (p : Plan) (phase : ℕ → Phase) (held : ℕ → Held) (order : List ℕ) : Type 0 where
  pub tasks : (t : ℕ) → has order t ≡ true → t < count_tasks p
  pub waiting : (t : ℕ) → has order t ≡ true → waits (phase t) ≡ true
  pub once : AreOnce order
  pub ready : (k : ℕ) → k < length order → IsReady p phase (take k order) (get_or order k 0)
  pub within : (k : ℕ) → k ≤ length order → IsWithin p (sizes held) (take k order)
