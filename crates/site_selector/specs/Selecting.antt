-- A site for each kept job, or the first fault.
use Rattle.std.specs.Prelude.{◌≡◌, ℕ, Bool, true, false, List, length, get_or, slice_get, Option, Some, None, Result, Ok, Err}
use Rattle.values.specs.declared.numbers.SiteId.{SiteId}
use Rattle.values.specs.declared.select_fault.SelectFault.{SelectFault}
use Rattle.workflow_core.specs.declared.workflow.Job.{Job}
use Rattle.workflow_core.specs.declared.workflow.Workflow.{Workflow}
use Rattle.transformation_catalog.specs.declared.catalog.TransformationCatalog.{TransformationCatalog}
use Rattle.transformation_catalog.specs.declared.catalog.TransformationEntry.{TransformationEntry}
use Rattle.plan_request.specs.declared.request.PlanRequest.{PlanRequest}
use Rattle.plan_request.specs.declared.request.Execution.{Execution}
use Rattle.dependency_graph.specs.Levels.{is_kept}
use Rattle.site_selector.specs.Turns.{turn_of}
use Rattle.site_selector.specs.Candidates.{selected_site}

-- what sites are selected by
pub record Selection : Type 0 where
  pub jobs : List Job
  pub kept : List Bool
  pub levels : List ℕ
  pub execute : List Execution
  pub entries : List TransformationEntry

abbrev pub selection : Workflow → List Bool → List ℕ → PlanRequest → TransformationCatalog → Selection
selection w kept levels r t = record {
  jobs = w.jobs;
  kept = kept;
  levels = levels;
  execute = r.execute;
  entries = t.entries;
}

-- the job of number a is j, and it is kept
abbrev pub IsKeptJob : Selection → ℕ → Job → Type 0
IsKeptJob c a j = (is_kept c.kept a ≡ true) × (slice_get c.jobs a ≡ Some j)

-- the site of a job at its own turn, or why it has none
abbrev pub answer_of : Selection → ℕ → Job → Result SiteId SelectFault
answer_of c a j = selected_site c.execute c.entries (turn_of c.kept c.levels a) a j

abbrev pub Gets : Result SiteId SelectFault → Option SiteId → Type 0
Gets (Ok s) found = found ≡ Some s
Gets (Err e) found = ⊥

-- each kept job has its site, and no other job has one
pub record IsSelected (c : Selection) (sites : List (Option SiteId)) : Type 0 where
  pub long : length sites ≡ length c.jobs
  pub kept : (a : ℕ) (j : Job) → IsKeptJob c a j → Gets (answer_of c a j) (get_or sites a None)
  pub others : (a : ℕ) → is_kept c.kept a ≡ false → get_or sites a None ≡ None
