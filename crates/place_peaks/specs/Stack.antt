-- The stack of the tasks that wait again: the last one is the first of rest.
use Rattle.std.specs.Prelude.{◌≡◌, ℕ, List, [], ◌∷◌}

-- a stack as a list, before more tasks
abbrev pub stacked : List ℕ → List ℕ → List ℕ
stacked [] more = more
stacked (t ∷ ts) more = stacked ts (t ∷ more)

-- the list begins with the task
abbrev pub IsFirstOf : List ℕ → ℕ → Type 0
IsFirstOf ts t = (us : List ℕ) × (ts ≡ t ∷ us)
