-- What one task more changes at a place.
use Rattle.std.specs.Prelude.{ℕ, ◌&&◌, Bool, cond}
use Rattle.std.specs.List.{list_any}
use Rattle.plan_core.specs.declared.plan.Plan.{Plan}
use Rattle.plan_core.specs.Numbers.{has}
use Rattle.plan_core.specs.Words.{parents}
use Rattle.storage_simulation.specs.declared.standing.Phase.{Phase}
use Rattle.storage_simulation.specs.Goods.{good_size, lies_at, makes}
use Rattle.storage_simulation.specs.Standings.{waits}

-- what is held of a good at the place; its declared size there
abbrev pub held_part : Plan → (ℕ → ℕ) → ℕ → ℕ → ℕ
held_part p size s g = cond (lies_at p g s) (size g) 0

abbrev pub size_part : Plan → ℕ → ℕ → ℕ
size_part p s g = cond (lies_at p g s) (good_size p g) 0

-- a parent that waits makes the good
abbrev pub waits_for_maker : Plan → (ℕ → Phase) → ℕ → ℕ → Bool
waits_for_maker p phase t g = list_any (λ u. waits (phase u) && has (makes p u) g) (parents p t)

-- what a good counts at the place until its Clean t
abbrev pub cleaned_part : Plan → (ℕ → Phase) → (ℕ → ℕ) → ℕ → ℕ → ℕ → ℕ
cleaned_part p phase size t s g = cond (lies_at p g s)
    (cond (waits_for_maker p phase t g) (good_size p g) (size g)) 0
