-- From what the documents say to a plan with its order, or the first fault on the way: the kept jobs with their levels, their sites, their clusters, the tasks, the Cleans, the order.
use Rattle.std.specs.Prelude.{◌≡◌, ◌⊎◌, ℕ, Bool, List, Option, Some, None, Result, Ok, Err}
use Rattle.values.specs.declared.documents.Documents.{Documents}
use Rattle.values.specs.declared.numbers.SiteId.{SiteId}
use Rattle.workflow_core.specs.declared.clusters.Clusters.{Clusters}
use Rattle.plan_request.specs.declared.request.PlanRequest.{PlanRequest}
use Rattle.clustering.specs.Basis.{clustering_input}
use Rattle.clustering.specs.code.Clusters.{ClustersAre}
use Rattle.clustering.specs.declared.fault.ClusterFault.{ClusterFault}
use Rattle.plan_core.specs.declared.plan.Plan.{Plan}
use Rattle.plan_core.specs.Words.{task_numbers}
use Rattle.cleanup_refiner.specs.Cleans.{with_cleanup}
use Rattle.storage_simulation.specs.declared.ordered.Ordered.{Ordered}
use Rattle.storage_simulation.specs.code.Ordering.{IsOrder}
use Rattle.storage_simulation.specs.Ordering.{at_start}
use Rattle.transfer_refiner.specs.declared.fault.RefineFault.{RefineFault}
use Rattle.transfer_refiner.specs.Draft.{Draft, planned}
use Rattle.transfer_refiner.specs.code.Tasks.{first_fault}
use Rattle.transfer_refiner.specs.Refined.{IsRefined}
use Rattle.planner.specs.declared.inputs.Survey.{Survey}
use Rattle.planner.specs.code.Course.{IsSurvey, Refuses}
use Rattle.planner.specs.code.Ordering.{Passes}
use Rattle.planner.specs.code.PlanFault.{cluster_fault, refine_fault}
use Rattle.planner.specs.code.Sites.{AreLeveled, AreSelected, IsUnplaced}
use Rattle.planner.specs.declared.plan_fault.PlanFault.{PlanFault}
use Rattle.planner.specs.declared.plan_fault.PlanFault.TheVariants as plan

-- ---- the way to a plan

-- The clusters of the kept jobs at their sites, or why they can't be clustered.
abbrev pub AreClustered : PlanRequest → Survey → List Bool → List ℕ → List (Option SiteId)
    → Result Clusters ClusterFault → Type 0
AreClustered r s kept levels sites answer = ClustersAre r.cluster s.workflow
    (clustering_input s.workflow levels sites s.transformations) kept answer

-- These are the sites and the clusters of the kept jobs.
pub record ArePlaced (r : PlanRequest) (s : Survey) (sites : List (Option SiteId))
    (clusters : Clusters) : Type 0 where
  pub kept : List Bool
  pub levels : List ℕ
  pub leveled : AreLeveled r s kept levels
  pub selected : AreSelected r s kept levels sites
  pub clustered : AreClustered r s kept levels sites (Ok clusters)

-- what is refined
abbrev pub draft : PlanRequest → Survey → List (Option SiteId) → Clusters → Draft
draft r s sites clusters = planned s.workflow clusters sites s.replicas r

-- The draft has no fault, and this is its plan.
pub record IsFineFor (d : Draft) (limit : ℕ) (p : Plan) : Type 0 where
  pub fine : first_fault d limit ≡ None
  pub refined : IsRefined d p

-- A plan of what the documents say: that of its sites and clusters, with its Cleans.
pub record IsPlanOf (r : PlanRequest) (s : Survey) (limit : ℕ) (p : Plan) : Type 0 where
  pub sites : List (Option SiteId)
  pub clusters : Clusters
  pub placed : ArePlaced r s sites clusters
  pub bare : Plan
  pub fine : IsFineFor (draft r s sites clusters) limit bare
  pub cleaned_is : p ≡ with_cleanup r.cleanup bare

-- A plan of what the documents say, with its order.
pub record IsPlanned (r : PlanRequest) (s : Survey) (limit : ℕ) (o : Ordered) : Type 0 where
  pub planned : IsPlanOf r s limit o.plan
  pub order : IsOrder o.plan at_start (task_numbers o.tasks.items)

-- ---- its faults

-- that of clusters
pub record IsUnclustered (r : PlanRequest) (s : Survey) (fault : PlanFault) : Type 0 where
  pub kept : List Bool
  pub levels : List ℕ
  pub leveled : AreLeveled r s kept levels
  pub sites : List (Option SiteId)
  pub selected : AreSelected r s kept levels sites
  pub cluster : ClusterFault
  pub first : AreClustered r s kept levels sites (Err cluster)
  pub fault_is : fault ≡ cluster_fault cluster

-- that of the first file without a replica or a size, or of too many tasks
pub record IsUnrefined (d : Draft) (limit : ℕ) (fault : PlanFault) : Type 0 where
  pub refine : RefineFault
  pub first : first_fault d limit ≡ Some refine
  pub fault_is : fault ≡ refine_fault refine

-- the sites and clusters have such a fault
pub record IsUnplanned (r : PlanRequest) (s : Survey) (limit : ℕ) (fault : PlanFault) : Type 0 where
  pub sites : List (Option SiteId)
  pub clusters : Clusters
  pub placed : ArePlaced r s sites clusters
  pub unrefined : IsUnrefined (draft r s sites clusters) limit fault

-- the plan has no order: a task passes a bound
pub record IsUnordered (r : PlanRequest) (s : Survey) (limit : ℕ) (fault : PlanFault) : Type 0 where
  pub plan : Plan
  pub planned : IsPlanOf r s limit plan
  pub passes : Passes plan fault

-- when each fault comes; want of memory is free
abbrev pub CannotPlace : PlanRequest → Survey → PlanFault → Type 0
CannotPlace r s plan.Memory = Unit {0}
CannotPlace r s fault = IsUnplaced r s fault ⊎ IsUnclustered r s fault

abbrev pub CannotRefine : Draft → ℕ → PlanFault → Type 0
CannotRefine d limit plan.Memory = Unit {0}
CannotRefine d limit fault = IsUnrefined d limit fault

abbrev pub CannotPlan : PlanRequest → Survey → ℕ → PlanFault → Type 0
CannotPlan r s limit plan.Memory = Unit {0}
CannotPlan r s limit fault = (IsUnplaced r s fault ⊎ IsUnclustered r s fault)
    ⊎ (IsUnplanned r s limit fault ⊎ IsUnordered r s limit fault)

abbrev pub Plans : PlanRequest → Survey → ℕ → Result Ordered PlanFault → Type 0
Plans r s limit (Ok o) = IsPlanned r s limit o
Plans r s limit (Err fault) = CannotPlan r s limit fault

-- ---- from the documents

-- The documents are surveyed, and this holds of what they say.
pub record OfSurvey (r : PlanRequest) (d : Documents) (P : Survey → Type 0) : Type 0 where
  pub survey : Survey
  pub says : IsSurvey r d survey
  pub holds : P survey

-- a fault of the documents, or of planning what they say
abbrev pub Fails : PlanRequest → Documents → ℕ → PlanFault → Type 0
Fails r d limit plan.Memory = Unit {0}
Fails r d limit fault = Refuses r d fault ⊎ OfSurvey r d (λ s. CannotPlan r s limit fault)

-- The plan of the documents with its order, or their first fault.
abbrev pub PlansDocuments : PlanRequest → Documents → ℕ → Result Ordered PlanFault → Type 0
PlansDocuments r d limit (Ok o) = OfSurvey r d (λ s. IsPlanned r s limit o)
PlansDocuments r d limit (Err fault) = Fails r d limit fault
