-- What is asked of a draft.
use Rattle.std.specs.Prelude.{◌≡◌, ℕ, ◌<◌, ◌≤◌, ◌==◌, ◌&&◌, Bool, true, false, not, List, [], ◌∷◌, ◌++◌, length, map, Some, slice_get, slice_index_or}
use Rattle.std.specs.List.{list_any, IsDistinct}
use Rattle.std.specs.Str.{bytes_eq}
use Rattle.values.specs.declared.numbers.JobId.{JobId}
use Rattle.values.specs.declared.numbers.SiteId.{SiteId}
use Rattle.workflow_core.specs.code.WellFormed.{IsWellFormed}
use Rattle.plan_request.specs.declared.request.Execution.{Execution}
use Rattle.digraph.specs.Cycle.{Returns}
use Rattle.dependency_graph.specs.Edges.{read_by, written_by, edge}
use Rattle.dependency_graph.specs.Graph.{IsSound}
use Rattle.plan_core.specs.Numbers.{has}
use Rattle.plan_core.specs.Words.{job_numbers}
use Rattle.transfer_refiner.specs.Draft.{Draft, site_of}
use Rattle.transfer_refiner.specs.Tasks.{part_of}

-- an edge leads from a job of part a to one of another part b
unfoldable pub leads : Draft → ℕ → ℕ → Bool
leads d a b = not (a == b) && list_any (λ i. list_any (λ j. edge d.workflow i j) (part_of d b)) (part_of d a)

-- each job's inputs that jobs of its part make are made by jobs before it
abbrev pub IsOrdered : Draft → List JobId → Type 0
IsOrdered d js = (done later : List JobId) (j : JobId) → js ≡ done ++ j ∷ later → (f : ℕ)
    → has (read_by d.workflow j.0) f ≡ true
    → list_any (λ (i : JobId). has (written_by d.workflow i.0) f) js ≡ true
    → list_any (λ (i : JobId). has (written_by d.workflow i.0) f) done ≡ true

-- no job stands twice
abbrev pub IsOnce : List JobId → Type 0
IsOnce js = (done later : List JobId) (j : JobId) → js ≡ done ++ j ∷ later
    → has (job_numbers later) j.0 ≡ false

-- The workflow is well formed and sound, and has for each job an execution site or none. The execution sites are few and distinct. Each job
-- is in at most one part, once, after those of its part of whose files it reads; each part has a site; no parts lead round.
pub record IsDraft (d : Draft) : Type 0 where
  pub formed : IsWellFormed d.workflow
  pub sound : IsSound d.workflow
  pub few_sites : length d.request.execute ≤ 64
  pub site_names : IsDistinct bytes_eq (map (λ (e : Execution). e.site) d.request.execute)
  pub jobs_placed : length d.sites ≡ length d.workflow.jobs
  pub sites_below : (j : ℕ) (s : SiteId) → slice_get d.sites j ≡ Some (Some s)
      → s.0 < length d.request.execute
  pub jobs_below : (c j : ℕ) → has (part_of d c) j ≡ true → j < length d.workflow.jobs
  pub one_part : (a b j : ℕ) → has (part_of d a) j ≡ true → has (part_of d b) j ≡ true → a ≡ b
  pub once : (c : ℕ) → IsOnce (slice_index_or d.parts c [])
  pub few_parts : length d.parts ≤ length d.workflow.jobs
  pub site_below : (c : ℕ) → c < length d.parts
      → site_of d (slice_index_or d.parts c []) < length d.request.execute
  pub ordered : (c : ℕ) → IsOrdered d (slice_index_or d.parts c [])
  pub acyclic : (c : ℕ) → Returns (leads d) c → ⊥
