-- The plan that is stated for what documents say, step by step.
use Rattle.std.specs.Prelude.{◌≡◌, ℕ, Bool, List, Option}
use Rattle.values.specs.declared.numbers.JobId.{JobId}
use Rattle.values.specs.declared.numbers.SiteId.{SiteId}
use Rattle.workflow_core.specs.declared.clusters.Clusters.{Clusters}
use Rattle.plan_request.specs.declared.request.ClusterMode.{ClusterMode}
use Rattle.plan_request.specs.declared.request.ClusterMode.TheVariants.{Horizontal, Label}
use Rattle.plan_request.specs.declared.request.PlanRequest.{PlanRequest}
use Rattle.dependency_graph.specs.Levels.{AreLevels}
use Rattle.dependency_graph.specs.Ranking.{IsRanked}
use Rattle.dependency_graph.specs.Graph.{numbers as job_numbers}
use Rattle.data_reuse.specs.Absent.{absent_in}
use Rattle.data_reuse.specs.Kept.{AreKept}
use Rattle.clustering.specs.Basis.{ClusteringInput, clustering_input}
use Rattle.clustering.specs.Labels.{labels_of}
use Rattle.clustering.specs.Runs.{runs_of}
use Rattle.clustering.specs.Singles.{singles}
use Rattle.plan_core.specs.declared.plan.Plan.{Plan}
use Rattle.cleanup_refiner.specs.Cleans.{with_cleanup}
use Rattle.transfer_refiner.specs.Draft.{planned}
use Rattle.transfer_refiner.specs.Refined.{IsRefined}
use Rattle.planner.specs.declared.inputs.Survey.{Survey}
use Rattle.planner.specs.Sites.{AreChosen}

-- the clusters of kept jobs: each by itself, unless they are put together in runs or by label
abbrev pub parts_of : ClusterMode → ClusteringInput → List JobId → List (List JobId)
parts_of Horizontal b jobs = runs_of b jobs
parts_of Label b jobs = labels_of b jobs
parts_of mode b jobs = singles jobs

-- The kept jobs with their levels, their sites and, in order of (level, number), their clusters; the plan that is refined
-- from these, with its Cleans.
pub record IsStatedPlan (r : PlanRequest) (s : Survey) (p : Plan) : Type 0 where
  pub kept : List Bool
  pub are_kept : AreKept (absent_in s.workflow s.replicas.entries r.force) s.workflow kept
  pub levels : List ℕ
  pub are_levels : AreLevels s.graph kept levels
  pub sites : List (Option SiteId)
  pub chosen : AreChosen r.selector r s kept levels sites
  pub jobs : List JobId
  pub ranked : IsRanked kept levels (job_numbers jobs)
  pub clusters : Clusters
  pub clustered : clusters.parts ≡ parts_of r.cluster (clustering_input s.workflow levels sites s.transformations) jobs
  pub bare : Plan
  pub refined : IsRefined (planned s.workflow clusters sites s.replicas r) bare
  pub cleaned_is : p ≡ with_cleanup r.cleanup bare
