-- Beside `specs/Standings.antt`: what the code's own contracts say.
use Rattle.std.specs.Prelude.{◌≡◌, ℕ, ◌^◌, ◌≤◌, ◌++◌, List, length, Option, Some, None, slice_get}
use Rattle.plan_core.specs.declared.plan.Plan.{Plan}
use Rattle.plan_core.specs.Words.{count_pairs, count_tasks}
use Rattle.storage_simulation.specs.declared.standing.Held.{Held}
use Rattle.storage_simulation.specs.declared.standing.Held.TheVariants.{Nothing}
use Rattle.storage_simulation.specs.declared.standing.Phase.{Phase}
use Rattle.storage_simulation.specs.declared.standing.Phase.TheVariants.{Waits}
use Rattle.storage_simulation.specs.declared.standing.Standing.{Standing}
use Rattle.storage_simulation.specs.Standings.{sizes}

-- a list by number, with d past its end
abbrev pub or_this : {X : Type 0} → X → Option X → X
or_this d None = d
or_this d (Some x) = x

abbrev pub at_in : {X : Type 0} → X → List X → ℕ → X
at_in d xs n = or_this d (slice_get xs n)

-- the deliveries follow the pairs, as goods do
abbrev pub held_of : Standing → ℕ → Held
held_of st = at_in Nothing (st.held ++ st.deliveries)

abbrev pub phase_of : Standing → ℕ → Phase
phase_of st = at_in Waits st.tasks

-- one value for each pair and task, each size small
pub record IsStanding (p : Plan) (st : Standing) : Type 0 where
  pub pairs : length st.held ≡ count_pairs p
  pub tasks : length st.tasks ≡ count_tasks p
  pub deliveries : length st.deliveries ≡ count_tasks p
  pub small : (g : ℕ) → sizes (held_of st) g ≤ 2 ^ 40
