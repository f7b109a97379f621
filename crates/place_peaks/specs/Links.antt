-- What follows from a plan once for all.
use Rattle.std.specs.Prelude.{◌≡◌, ℕ, ◌<◌, true, false, get_or, List, Option, Some, None}
use Rattle.digraph.specs.code.Digraph.{count, edge}
use Rattle.plan_core.specs.declared.plan.Plan.{Plan}
use Rattle.plan_core.specs.Numbers.{has}
use Rattle.plan_core.specs.Words.{cleans, count_tasks, parents}
use Rattle.place_peaks.specs.declared.links.Links.{Links}

-- the Clean of a good, if there is one
abbrev pub IsCleaner : Plan → ℕ → Option ℕ → Type 0
IsCleaner p g None = (c : ℕ) → cleans p c g ≡ false
IsCleaner p g (Some c) = cleans p c g ≡ true

-- the same among the first tasks alone
abbrev pub IsCleanerBefore : Plan → ℕ → ℕ → Option ℕ → Type 0
IsCleanerBefore p k g None = (c : ℕ) → c < k → cleans p c g ≡ false
IsCleanerBefore p k g (Some c) = cleans p c g ≡ true

abbrev pub AreCleanersBefore : Plan → ℕ → List (Option ℕ) → Type 0
AreCleanersBefore p k items = (g : ℕ) → IsCleanerBefore p k g (get_or items g None)

-- The graph has the plan's tasks, and leads from each parent to its children; and each good has its Clean.
pub record AreLinks (p : Plan) (links : Links) : Type 0 where
  pub nodes : count links.children ≡ count_tasks p
  pub edges : (u t : ℕ) → edge links.children u t ≡ has (parents p t) u
  pub cleaners : (g : ℕ) → IsCleaner p g (get_or links.cleaners.items g None)
