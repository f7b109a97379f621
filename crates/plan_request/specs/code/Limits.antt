-- What every reader of a request gives of its numbers.
use Rattle.std.specs.Prelude.{ℕ, ◌^◌, ◌≤◌, Option, Some, None}
use Rattle.std.specs.List.{AllByRecursion}
use Rattle.plan_request.specs.declared.request.Execution.{Execution}
use Rattle.plan_request.specs.declared.request.PlanRequest.{PlanRequest}
use Rattle.plan_request.specs.declared.request.Runtime.{Runtime}
use Rattle.plan_request.specs.declared.request.SizeOf.{SizeOf}
use Rattle.plan_request.specs.code.RunPolicy.{IsPolicyInRange}

-- a size that is there is at most 2^40
abbrev pub IsSmallDefault : Option ℕ → Type 0
IsSmallDefault None = Unit {0}
IsSmallDefault (Some n) = n ≤ 2 ^ 40

-- a run takes from 1 to 2^32 seconds
abbrev pub IsRuntimeInRange : Runtime → Type 0
IsRuntimeInRange t = (1 ≤ t.seconds) × (t.seconds ≤ 2 ^ 32)

-- bounds are at most 2^60, sizes at most 2^40, the rate from 1 to 2^40, and policy and runtimes in range
pub record IsWithinLimits (r : PlanRequest) : Type 0 where
  pub bounds : AllByRecursion (λ (e : Execution). e.bound ≤ 2 ^ 60) r.execute
  pub sizes : AllByRecursion (λ (s : SizeOf). s.size ≤ 2 ^ 40) r.sizes
  pub default_size : IsSmallDefault r.default_size
  pub policy : IsPolicyInRange r.policy
  pub rate : (1 ≤ r.rate) × (r.rate ≤ 2 ^ 40)
  pub runtimes : AllByRecursion IsRuntimeInRange r.runtimes
