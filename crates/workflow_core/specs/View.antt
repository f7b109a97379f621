-- What a workflow says, with its catalogues as the trees that they are.
use Rattle.std.specs.Prelude.{ℕ, List, Option, option_map}
use Rattle.serde_json.specs.Data.{Data}
use Rattle.serde_json.specs.View.{view as tree_view}
use Rattle.values.specs.declared.numbers.JobId.{JobId}
use Rattle.workflow_core.specs.declared.workflow.Workflow.{Workflow}
use Rattle.workflow_core.specs.declared.workflow.Job.{Job}

-- all of a workflow but the keys that aren't acted on
pub record WorkflowEntry : Type 0 where
  pub name : List ℕ
  pub jobs : List Job
  pub pairs : List (JobId × JobId)
  pub files : List (List ℕ)
  pub sizes : List (Option ℕ)
  pub sites : Option Data
  pub replicas : Option Data
  pub transformations : Option Data

-- what a workflow says
abbrev pub workflow_view : Workflow → WorkflowEntry
workflow_view w = record {
  name = w.name;
  jobs = w.jobs;
  pairs = w.pairs;
  files = w.files;
  sizes = w.sizes;
  sites = option_map tree_view w.inlined.sites;
  replicas = option_map tree_view w.inlined.replicas;
  transformations = option_map tree_view w.inlined.transformations;
}
