-- What jobs are clustered by, and which of them are a group.
use Rattle.std.specs.Prelude.{ℕ, ◌&&◌, Bool, List, nat_eq, Option, None, option_map, slice_get, slice_index_or, unwrap_or}
use Rattle.std.specs.Option.{option_eq}
use Rattle.values.specs.declared.numbers.JobId.{JobId}
use Rattle.values.specs.declared.numbers.SiteId.{SiteId}
use Rattle.workflow_core.specs.declared.workflow.Job.{Job}
use Rattle.workflow_core.specs.declared.workflow.Workflow.{Workflow}
use Rattle.workflow_core.specs.declared.workflow.Transformation.{Transformation}
use Rattle.transformation_catalog.specs.declared.catalog.TransformationCatalog.{TransformationCatalog}
use Rattle.transformation_catalog.specs.declared.catalog.TransformationEntry.{TransformationEntry}
use Rattle.transformation_catalog.specs.Catalog.{same_transformation}
use Rattle.dependency_graph.specs.Levels.{level}
use Rattle.clustering.specs.declared.numbers.Numbers.{Numbers}
use Rattle.clustering.specs.Numbers.{entry_of_transformation, numbers_by}

-- The workflow's jobs, their levels and sites, and a catalogue's entries.
pub record ClusteringInput : Type 0 where
  pub jobs : List Job
  pub levels : List ℕ
  pub sites : List (Option SiteId)
  pub entries : List TransformationEntry

abbrev pub clustering_input : Workflow → List ℕ → List (Option SiteId) → TransformationCatalog → ClusteringInput
clustering_input w levels sites t = record { jobs = w.jobs; levels = levels; sites = sites; entries = t.entries }

-- the number of a job's site, and its transformation
abbrev pub site_at : ClusteringInput → ℕ → Option ℕ
site_at c a = option_map (λ (s : SiteId). s.0) (slice_index_or c.sites a None)

abbrev pub transformation_at : ClusteringInput → ℕ → Option Transformation
transformation_at c a = option_map (λ (j : Job). j.transformation) (slice_get c.jobs a)

-- level, site and transformation are equal
abbrev pub same_group : ClusteringInput → JobId → JobId → Bool
same_group c i j =
    (nat_eq (level c.levels i.0) (level c.levels j.0) && option_eq nat_eq (site_at c i.0) (site_at c j.0))
    && option_eq same_transformation (transformation_at c i.0) (transformation_at c j.0)

-- the numbers of some jobs: those of the first one
abbrev pub no_numbers : Numbers
no_numbers = record { num = None; size = None }

abbrev pub numbers_at : ClusteringInput → JobId → Numbers
numbers_at c j = unwrap_or
    (option_map (λ (x : Job). numbers_by (entry_of_transformation c.entries x.transformation) x) (slice_get c.jobs j.0)) no_numbers

abbrev pub group_numbers : ClusteringInput → List JobId → Numbers
group_numbers c js = unwrap_or (option_map (numbers_at c) (slice_get js 0)) no_numbers
