-- What is known of a request and of what its documents say.
use Rattle.std.proofs.Props.{props}
use Rattle.std.specs.Prelude.{◌≡◌, ℕ, ◌≤◌, List, [], ◌∷◌, MatchOption, Option, Some, None}
use Rattle.std.specs.Coded.{Unit-prop, le_prop}
use Rattle.values.specs.declared.numbers.JobId.{JobId}
use Rattle.values.specs.declared.policy.Policy.{Policy}
use Rattle.workflow_core.specs.code.WellFormed.{IsSmallSize, IsWellFormed}
use Rattle.workflow_core.specs.declared.workflow.Workflow.{Workflow}
use Rattle.plan_request.specs.code.Limits.{IsSmallDefault, IsWithinLimits}
use Rattle.plan_request.specs.code.RunPolicy.{IsPolicyInRange, IsSmallBound}
use Rattle.plan_request.specs.declared.request.PlanRequest.{PlanRequest}
use Rattle.digraph.specs.code.Adjacency.{IsRising-prop}
use Rattle.dependency_graph.specs.Edges.{makers}
use Rattle.dependency_graph.specs.Graph.{IsGraphOf, Links, producer_of_file}
use Rattle.plan_core.specs.declared.plan.Plan.{Plan}
use Rattle.planner.specs.declared.inputs.Survey.{Survey}
use Rattle.planner.specs.code.Meaning.{MeansWorkflow}
use Rattle.planner.specs.code.Planning.{IsPlanOf}

-- every plan of what the survey says means its workflow
abbrev pub PlansMeanWorkflow : PlanRequest → Survey → Type 0
PlansMeanWorkflow r s = (limit : ℕ) (p : Plan) → limit ≤ 120000 → IsPlanOf r s limit p → MeansWorkflow r s p

small_size-prop : (o : Option ℕ) → IsProp (IsSmallSize o)
small_size-prop None = Unit-prop
small_size-prop (Some n) = le_prop

pub IsWellFormed-prop : (w : Workflow) → IsProp (IsWellFormed w)
IsWellFormed-prop w = Prim.hlevel (props, small_size-prop)

list-prop : (xs ys : List ℕ) → IsProp (xs ≡ ys)
list-prop xs ys = Prim.hlevel (props)

made-prop : (o : Option JobId) (xs : List ℕ) → IsProp (MatchOption o (xs ≡ []) (λ (j : JobId). xs ≡ j.0 ∷ []))
made-prop None xs = list-prop xs []
made-prop (Some j) xs = list-prop xs (j.0 ∷ [])

producer-prop : (w : Workflow) (g : Links) (f : ℕ)
    → IsProp (MatchOption (producer_of_file g.producers f) (makers w f ≡ []) (λ (j : JobId). makers w f ≡ j.0 ∷ []))
producer-prop w g f = made-prop (producer_of_file g.producers f) (makers w f)

pub IsGraphOf-prop : (w : Workflow) (g : Links) → IsProp (IsGraphOf w g)
IsGraphOf-prop w g = Prim.hlevel (props, producer-prop, IsRising-prop)

small_default-prop : (o : Option ℕ) → IsProp (IsSmallDefault o)
small_default-prop None = Unit-prop
small_default-prop (Some n) = le_prop

small_bound-prop : (o : Option ℕ) → IsProp (IsSmallBound o)
small_bound-prop None = Unit-prop
small_bound-prop (Some n) = le_prop

in_range-prop : (p : Policy) → IsProp (IsPolicyInRange p)
in_range-prop p = Prim.hlevel (props, small_bound-prop)

pub IsWithinLimits-prop : (r : PlanRequest) → IsProp (IsWithinLimits r)
IsWithinLimits-prop r = Prim.hlevel (props, small_default-prop, in_range-prop)

pub PlansMeanWorkflow-prop : (r : PlanRequest) (s : Survey) → IsProp (PlansMeanWorkflow r s)
PlansMeanWorkflow-prop r s = Prim.hlevel (props)
