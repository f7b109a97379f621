-- Beside `specs/Following.antt`: what the code's own contracts say.
use Rattle.std.specs.Prelude.{◌≡◌, ℕ, ◌<◌, ◌&&◌, ◌||◌, Bool, true, false, not, nat_lt, List, length, take, get_or}
use Rattle.std.specs.List.{list_all}
use Rattle.plan_core.specs.declared.plan.Plan.{Plan}
use Rattle.plan_core.specs.Numbers.{has}
use Rattle.plan_core.specs.Words.{count_tasks, parents}
use Rattle.storage_simulation.specs.declared.standing.Phase.{Phase}
use Rattle.storage_simulation.specs.Standings.{waits}
use Rattle.storage_simulation.specs.Following.{AreOnce, IsReady, is_ready}

-- An order is a list of waiting tasks of the plan, none twice; here each is ready after those before it.
pub record Follows (p : Plan) (phase : ℕ → Phase) (order : List ℕ) : Type 0 where
  pub tasks : (t : ℕ) → has order t ≡ true → t < count_tasks p
  pub waiting : (t : ℕ) → has order t ≡ true → waits (phase t) ≡ true
  pub once : AreOnce order
  pub ready : (k : ℕ) → k < length order → IsReady p phase (take k order) (get_or order k 0)

-- the test of one task behind a front
abbrev pub may_follow : Plan → (ℕ → Phase) → List ℕ → ℕ → Bool
may_follow p phase front t = nat_lt t (count_tasks p)
    && (waits (phase t) && (not (has front t) && is_ready p phase front t))

-- the same where the tasks of the front have a mark
abbrev pub is_marked : List Bool → ℕ → Bool
is_marked marks t = get_or marks t false

abbrev pub AreMarked : List Bool → List ℕ → Type 0
AreMarked marks front = (t : ℕ) → is_marked marks t ≡ has front t

abbrev pub may_come : Plan → (ℕ → Phase) → List Bool → ℕ → Bool
may_come p phase marks t = nat_lt t (count_tasks p)
    && (waits (phase t) && (not (is_marked marks t)
    && list_all (λ u. not (waits (phase u)) || is_marked marks u) (parents p t)))
