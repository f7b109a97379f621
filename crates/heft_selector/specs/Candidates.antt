-- The sites where each kept job can run, or the first fault by number.
use Rattle.std.specs.Prelude.{ℕ, Bool, [], List, slice_get, Option, Some, None}
use Rattle.workflow_core.specs.declared.workflow.Job.{Job}
use Rattle.transformation_catalog.specs.declared.catalog.TransformationCatalog.{TransformationCatalog}
use Rattle.transformation_catalog.specs.declared.catalog.TransformationEntry.{TransformationEntry}
use Rattle.plan_request.specs.declared.request.Execution.{Execution}
use Rattle.site_selector.specs.Offers.{sites_of}
use Rattle.site_selector.specs.Candidates.{candidates}

-- by what candidates are found
pub record Offering : Type 0 where
  pub jobs : List Job
  pub kept : List Bool
  pub execute : List Execution
  pub entries : List TransformationEntry

abbrev pub offering : List Job → List Bool → List Execution → TransformationCatalog → Offering
offering jobs kept execute t =
    record { jobs = jobs; kept = kept; execute = execute; entries = t.entries }

-- the candidates of a job, none where there is no such job
abbrev pub candidates_in : Offering → Option Job → List ℕ
candidates_in x None = []
candidates_in x (Some j) = candidates x.execute (sites_of x.entries j.transformation) j.pinned

abbrev pub candidates_at : Offering → ℕ → List ℕ
candidates_at x a = candidates_in x (slice_get x.jobs a)
