-- A plan of what documents say is the one that is stated, and the other way where it has no fault.
use Rattle.std.proofs.Common.{◌≡◌, ℕ, Bool, List}
use Rattle.std.specs.Prelude.{None, Ok}
use Rattle.values.specs.declared.numbers.JobId.{JobId}
use Rattle.workflow_core.specs.declared.clusters.Clusters.{Clusters}
use Rattle.workflow_core.specs.declared.workflow.Workflow.{Workflow}
use Rattle.plan_request.specs.declared.request.ClusterMode.{ClusterMode}
use Rattle.plan_request.specs.declared.request.ClusterMode.TheVariants as modes
use Rattle.plan_request.specs.declared.request.PlanRequest.{PlanRequest}
use Rattle.digraph.specs.Cycle.{Returns}
use Rattle.dependency_graph.specs.Ranking.{IsRanked}
use Rattle.clustering.specs.Basis.{ClusteringInput, clustering_input as basis}
use Rattle.clustering.specs.code.Basis.{first_bad}
use Rattle.clustering.specs.code.Clusters.{ClustersAre}
use Rattle.clustering.specs.code.Condition.{leads}
use Rattle.clustering.specs.code.Labels.{first_apart}
use Rattle.clustering.specs.Labels.{labels_of}
use Rattle.dependency_graph.specs.Graph.{numbers as job_numbers}
use Rattle.plan_core.specs.declared.plan.Plan.{Plan}
use Rattle.transfer_refiner.specs.code.Tasks.{first_fault}
use Rattle.planner.specs.declared.inputs.Survey.{Survey}
use Rattle.planner.specs.code.Planning.{IsPlanOf, draft}
use Rattle.pegasus_cli.specs.Plan.{IsStatedPlan, parts_of}

-- ---- clusters

record AreParted (mode : ClusterMode) (b : ClusteringInput) (kept : List Bool) (c : Clusters) : Type 0 where
  pub jobs : List JobId
  pub ranked : IsRanked kept b.levels (job_numbers jobs)
  pub parts : c.parts ≡ parts_of mode b jobs

parted : (mode : ClusterMode) (w : Workflow) (b : ClusteringInput) (kept : List Bool) (c : Clusters) → ClustersAre mode w b kept (Ok c) → AreParted mode b kept c
parted modes.Horizontal w b kept c h = record { jobs = h.jobs; ranked = h.ranked; parts = h.parts }
parted modes.Label w b kept c h = record { jobs = h.jobs; ranked = h.ranked; parts = h.parts }
parted mode w b kept c h = record { jobs = h.jobs; ranked = h.ranked; parts = h.parts }

-- no number of a run is bad; no label is over two sites, and no clusters lead round
abbrev HaveNoFault : ClusterMode → Workflow → ClusteringInput → List JobId → Type 0
HaveNoFault modes.Horizontal w b jobs = first_bad b jobs ≡ None
HaveNoFault modes.Label w b jobs = (first_apart b (labels_of b jobs) jobs ≡ None) × ((a : ℕ) → Returns (leads w (labels_of b jobs)) a → ⊥)
HaveNoFault mode w b jobs = Unit {0}

clusters_are : (mode : ClusterMode) (w : Workflow) (b : ClusteringInput) (kept : List Bool) (c : Clusters) (are : AreParted mode b kept c) → HaveNoFault mode w b are.jobs → ClustersAre mode w b kept (Ok c)
clusters_are modes.Horizontal w b kept c are fine = record { jobs = are.jobs; ranked = are.ranked; fine = fine; parts = are.parts }
clusters_are modes.Label w b kept c are fine = record { jobs = are.jobs; ranked = are.ranked; one_site = fine.0; acyclic = fine.1; parts = are.parts }
clusters_are mode w b kept c are fine = record { jobs = are.jobs; ranked = are.ranked; parts = are.parts }

-- ---- the plan

pub stated_so : (r : PlanRequest) (s : Survey) (limit : ℕ) (p : Plan) → IsPlanOf r s limit p → IsStatedPlan r s p
stated_so r s limit p h =
    let are = parted r.cluster s.workflow (basis s.workflow h.placed.levels h.sites s.transformations) h.placed.kept h.clusters h.placed.clustered in record {
      kept = h.placed.kept;
      are_kept = h.placed.leveled.are_kept;
      levels = h.placed.levels;
      are_levels = h.placed.leveled.are_levels;
      sites = h.sites;
      chosen = h.placed.selected;
      jobs = are.jobs;
      ranked = are.ranked;
      clusters = h.clusters;
      clustered = are.parts;
      bare = h.bare;
      refined = h.fine.refined;
      cleaned_is = h.cleaned_is;
    }

pub planned_so : (r : PlanRequest) (s : Survey) (limit : ℕ) (p : Plan) (h : IsStatedPlan r s p) → HaveNoFault r.cluster s.workflow (basis s.workflow h.levels h.sites s.transformations) h.jobs → first_fault (draft r s h.sites h.clusters) limit ≡ None → IsPlanOf r s limit p
planned_so r s limit p h clustered fine = record {
  sites = h.sites;
  clusters = h.clusters;
  placed = record {
    kept = h.kept;
    levels = h.levels;
    leveled = record { are_kept = h.are_kept; are_levels = h.are_levels };
    selected = h.chosen;
    clustered = clusters_are r.cluster s.workflow (basis s.workflow h.levels h.sites s.transformations) h.kept h.clusters (record { jobs = h.jobs; ranked = h.ranked; parts = h.clustered }) clustered;
  };
  bare = h.bare;
  fine = record { fine = fine; refined = h.refined };
  cleaned_is = h.cleaned_is;
}
