-- Kept jobs, each a part of its own.
use Rattle.std.specs.Prelude.{◌≡◌, ℕ, ◌<◌, ◌≤◌, List, [], ◌∷◌, length, map, Option, Some, Ok, slice_get}
use Rattle.values.specs.declared.numbers.JobId.{JobId}
use Rattle.values.specs.declared.numbers.SiteId.{SiteId}
use Rattle.workflow_core.specs.declared.workflow.Workflow.{Workflow}
use Rattle.workflow_core.specs.code.WellFormed.{IsWellFormed}
use Rattle.plan_request.specs.declared.request.PlanRequest.{PlanRequest}
use Rattle.plan_request.specs.Request.{execute_checked}
use Rattle.dependency_graph.specs.Graph.{IsSound}

abbrev pub single : JobId → List JobId
single j = j ∷ []

abbrev pub singles : List JobId → List (List JobId)
singles js = map single js

-- The workflow is well formed and sound. The execution sites passed the check of a request, and each job has one or none. The kept jobs are
-- jobs of the workflow, none stands twice, and each has a site.
pub record ArePlaced (w : Workflow) (request : PlanRequest) (sites : List (Option SiteId))
    (js : List JobId) : Type 0 where
  pub formed : IsWellFormed w
  pub sound : IsSound w
  pub checked : execute_checked request.execute ≡ Ok tt
  pub jobs_placed : length sites ≡ length w.jobs
  pub sites_below : (j : ℕ) (s : SiteId) → slice_get sites j ≡ Some (Some s) → s.0 < length request.execute
  pub few : length js ≤ length w.jobs
  pub below : (n : ℕ) (j : JobId) → slice_get js n ≡ Some j → j.0 < length w.jobs
  pub once : (m n : ℕ) (i j : JobId) → slice_get js m ≡ Some i → slice_get js n ≡ Some j → i.0 ≡ j.0 → m ≡ n
  pub placed : (n : ℕ) (j : JobId) → slice_get js n ≡ Some j
      → (s : SiteId) × (slice_get sites j.0 ≡ Some (Some s))
