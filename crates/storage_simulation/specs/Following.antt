-- Orders of waiting tasks in which each task comes after its parents.
use Rattle.std.specs.Prelude.{◌≡◌, ℕ, ◌&&◌, ◌||◌, Bool, true, not, List, [], ◌∷◌}
use Rattle.std.specs.List.{list_all}
use Rattle.plan_core.specs.declared.plan.Plan.{Plan}
use Rattle.plan_core.specs.Numbers.{has}
use Rattle.plan_core.specs.Words.{parents}
use Rattle.storage_simulation.specs.declared.standing.Phase.{Phase}
use Rattle.storage_simulation.specs.Standings.{waits}

-- each once
abbrev pub once : List ℕ → Bool
once [] = true
once (t ∷ ts) = not (has ts t) && once ts

abbrev pub AreOnce : List ℕ → Type 0
AreOnce ts = once ts ≡ true

-- each parent of the task stands in the front, runs or has ended
abbrev pub IsReady : Plan → (ℕ → Phase) → List ℕ → ℕ → Type 0
IsReady p phase front t = (u : ℕ) → has (parents p t) u ≡ true → waits (phase u) ≡ true → has front u ≡ true

-- a parent that waits stands in the front
abbrev pub is_ready : Plan → (ℕ → Phase) → List ℕ → ℕ → Bool
is_ready p phase front t = list_all (λ u. not (waits (phase u)) || has front u) (parents p t)
