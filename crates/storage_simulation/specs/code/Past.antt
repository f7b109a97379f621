-- The first front of an order that passes the bound of some places.
use Rattle.std.specs.Prelude.{◌≡◌, ℕ, ◌+◌, ◌<◌, ◌≤◌, List, length, take, Option, Some, None}
use Rattle.plan_core.specs.declared.plan.Plan.{Plan}
use Rattle.storage_simulation.specs.declared.fitting.Past.{Past}
use Rattle.storage_simulation.specs.Goods.{place_bound}
use Rattle.storage_simulation.specs.Usage.{usage}

-- the place keeps its bound after each of the first n tasks and fewer
abbrev pub KeepsBound : Plan → (ℕ → ℕ) → List ℕ → ℕ → ℕ → Type 0
KeepsBound p size order s n = (k : ℕ) → k ≤ n → usage p size (take k order) s ≤ place_bound p s

-- of the first n tasks it is the first after which this place's bound is passed
pub record IsPastAt (p : Plan) (size : ℕ → ℕ) (order : List ℕ) (s n : ℕ) (e : Past) : Type 0 where
  pub place_is : e.place ≡ s
  pub in_front : e.position < n
  pub before : KeepsBound p size order s e.position
  pub needed_is : e.needed ≡ usage p size (take (e.position + 1) order) s
  pub bound_is : e.bound ≡ place_bound p s
  pub passes : e.bound < e.needed

-- it is the first task after which the bound of one of the first n places is passed, and that place is the first
pub record IsPast (p : Plan) (size : ℕ → ℕ) (order : List ℕ) (n : ℕ) (e : Past) : Type 0 where
  pub place_is : e.place < n
  pub in_order : e.position < length order
  pub before : (s : ℕ) → s < n → KeepsBound p size order s e.position
  pub first : (s : ℕ) → s < e.place → usage p size (take (e.position + 1) order) s ≤ place_bound p s
  pub needed_is : e.needed ≡ usage p size (take (e.position + 1) order) e.place
  pub bound_is : e.bound ≡ place_bound p e.place
  pub passes : e.bound < e.needed

abbrev pub IsFound : Plan → (ℕ → ℕ) → List ℕ → ℕ → Option Past → Type 0
IsFound p size order n None = (s : ℕ) → s < n → KeepsBound p size order s (length order)
IsFound p size order n (Some e) = IsPast p size order n e
