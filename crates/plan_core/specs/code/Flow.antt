-- The tests of tasks among each other.
use Rattle.std.specs.Prelude.{◌≡◌, ℕ, ◌<◌, ◌&&◌, ◌||◌, Bool, true, List, nat_lt}
use Rattle.std.specs.List.{list_all}
use Rattle.digraph.specs.Cycle.{Returns}
use Rattle.plan_core.specs.declared.plan.Plan.{Plan}
use Rattle.plan_core.specs.Numbers.{has}
use Rattle.plan_core.specs.Words.{writes, is_run, count_pairs, count_tasks}
use Rattle.plan_core.specs.code.Proper.{is_written, is_parent, AreParents}
use Rattle.plan_core.specs.code.Rising.{is_rising}

-- each pair has a writer, and one
pub record HasOneWriter (p : Plan) : Type 0 where
  pub written : (q : ℕ) → q < count_pairs p → is_written p q ≡ true
  pub one : (t u q : ℕ) → has (writes p t) q ≡ true → has (writes p u) q ≡ true → t ≡ u

-- each needed number is listed
abbrev pub includes : List ℕ → List ℕ → Bool
includes xs needed = list_all (λ u. has xs u) needed

-- each listed number is needed, or of a Run beside a Run
abbrev pub are_allowed : Plan → List ℕ → List ℕ → ℕ → Bool
are_allowed p xs needed t = list_all (λ u. has needed u || (is_run p t && is_run p u)) xs

abbrev pub parents_fit : Plan → List ℕ → List ℕ → ℕ → Bool
parents_fit p xs needed t = is_rising xs && (list_all (λ n. nat_lt n (count_tasks p)) xs
    && (includes xs needed && are_allowed p xs needed t))

-- tasks wait for the right ones, and none for itself
pub record HasOrder (p : Plan) : Type 0 where
  pub parents : (t : ℕ) → AreParents p t
  pub acyclic : (t : ℕ) → Returns (is_parent p) t → ⊥
