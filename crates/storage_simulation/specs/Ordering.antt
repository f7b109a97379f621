-- Order: the waiting tasks placed step by step, from any standing.
use Rattle.std.specs.Prelude.{ℕ, ◌||◌, ◌&&◌, Bool, true, false, cond, not, List, [], ◌∷◌, ◌++◌, Option, Some}
use Rattle.values.specs.Numbers.{total}
use Rattle.plan_core.specs.declared.plan.Plan.{Plan}
use Rattle.plan_core.specs.declared.plan.TaskKind.{TaskKind}
use Rattle.plan_core.specs.declared.plan.TaskKind.TheVariants.{Clean}
use Rattle.plan_core.specs.Numbers.{has}
use Rattle.plan_core.specs.Words.{count_tasks, kind, pair, writes}
use Rattle.storage_simulation.specs.declared.standing.Held.{Held}
use Rattle.storage_simulation.specs.declared.standing.Held.TheVariants.{Nothing, Stored, Reserved}
use Rattle.storage_simulation.specs.declared.standing.Phase.{Phase}
use Rattle.storage_simulation.specs.declared.standing.Phase.TheVariants.{Waits}
use Rattle.storage_simulation.specs.Goods.{pair_size}
use Rattle.storage_simulation.specs.Standings.{sizes, waits}
use Rattle.storage_simulation.specs.Usage.{sum_of}
use Rattle.storage_simulation.specs.Following.{is_ready}

-- how far each task is, and what is held of each good
pub record Progress : Type 0 where
  pub phase : ℕ → Phase
  pub held : ℕ → Held

-- all tasks wait, and nothing is held
abbrev pub all_wait : ℕ → Phase
all_wait t = Waits

abbrev pub nothing_held : ℕ → Held
nothing_held g = Nothing

abbrev pub at_start : Progress
at_start = record { phase = all_wait; held = nothing_held }

abbrev pub size : Progress → ℕ → ℕ
size st g = sizes st.held g

-- the task is placed, runs or has ended
abbrev pub is_done : Progress → List ℕ → ℕ → Bool
is_done st front t = not (waits (st.phase t)) || has front t

-- The score is what comes less what goes.
-- What comes: of the pairs that the task writes, the declared bytes of those of which nothing is held.
abbrev pub is_held : Held → Bool
is_held Nothing = false
is_held _ = true

abbrev pub coming : Plan → Progress → ℕ → ℕ
coming p st q = cond (is_held (st.held q)) 0 (pair_size p (pair p q))

abbrev pub comes : Plan → Progress → ℕ → ℕ
comes p st t = sum_of (coming p st) (writes p t)

-- the bytes of a pair: its held size, or its declared size where none is held; those that a Clean frees
abbrev pub held_or : Held → ℕ → ℕ
held_or Nothing d = d
held_or (Stored n) d = n
held_or (Reserved n) d = n

abbrev pub held_or_declared : Plan → Progress → ℕ → ℕ
held_or_declared p st q = held_or (st.held q) (pair_size p (pair p q))

abbrev pub kind_frees : Plan → Progress → Option TaskKind → ℕ
kind_frees p st (Some (Clean q)) = held_or_declared p st q.0
kind_frees p st _ = 0

unfoldable pub frees : Plan → Progress → ℕ → ℕ
frees p st t = kind_frees p st (kind p t)

abbrev pub makes_ready : Plan → Progress → List ℕ → ℕ → ℕ → Bool
makes_ready p st front t c = not (is_ready p st.phase front c) && is_ready p st.phase (front ++ t ∷ []) c

-- What goes: the bytes of the pairs whose Clean the task makes ready.
abbrev pub goes : Plan → Progress → List ℕ → ℕ → ℕ
goes p st front t = total (count_tasks p) (λ c. cond (makes_ready p st front t c) (frees p st c) 0)
