-- Beside `specs/Deliveries.antt`: what the code's own contracts say.
use Rattle.std.specs.Prelude.{◌≡◌, ℕ, ◌<◌, true, [], length, slice_get, slice_index_or, Some}
use Rattle.plan_request.specs.declared.request.PlanRequest.{PlanRequest}
use Rattle.plan_core.specs.declared.plan.Plan.{Plan}
use Rattle.plan_core.specs.declared.plan.PlanFile.{PlanFile}
use Rattle.plan_core.specs.Words.{delivers}
use Rattle.planner.specs.declared.inputs.Survey.{Survey}
use Rattle.planner.specs.Deliveries.{IsRequested}

-- a file of the plan has its workflow's name
pub record IsNamed (s : Survey) (p : Plan) (f : ℕ) : Type 0 where
  pub file : PlanFile
  pub is : slice_get p.files f ≡ Some file
  pub named : file.lfn ≡ slice_index_or s.workflow.files f []

-- a task delivers the file
abbrev pub IsDelivered : Plan → ℕ → Type 0
IsDelivered p f = (t : ℕ) × (delivers p t f ≡ true)

-- The plan has the request's policy and the workflow's names, and delivers the requested files and no others.
pub record DeliversRequests (r : PlanRequest) (s : Survey) (p : Plan) : Type 0 where
  pub policy : p.policy ≡ r.policy
  pub named : (f : ℕ) → f < length s.workflow.files → IsNamed s p f
  pub requested : (f : ℕ) → IsDelivered p f → IsRequested s f
  pub delivered : (f : ℕ) → IsRequested s f → IsDelivered p f
