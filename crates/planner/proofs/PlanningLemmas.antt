-- How the faults of the layers are those of planning.
use Rattle.std.proofs.Common.{◌≡◌, ℕ, zero, suc, Bool, List, [], ◌∷◌, map, refl, inl, inr}
use Rattle.std.specs.Prelude.{Option, Some, None, Err, slice_get, slice_index_or}
use Rattle.values.specs.declared.documents.Documents.{Documents}
use Rattle.values.specs.declared.numbers.SiteId.{SiteId}
use Rattle.values.specs.declared.select_fault.SelectFault.{SelectFault}
use Rattle.values.specs.declared.select_fault.SelectFault.TheVariants as select
use Rattle.workflow_core.specs.declared.clusters.Clusters.{Clusters}
use Rattle.workflow_core.specs.declared.workflow.Job.{Job}
use Rattle.plan_request.specs.declared.request.PlanRequest.{PlanRequest}
use Rattle.clustering.specs.declared.fault.ClusterFault.{ClusterFault}
use Rattle.clustering.specs.declared.fault.ClusterFault.TheVariants as cluster
use Rattle.plan_core.specs.declared.plan.Plan.{Plan}
use Rattle.transfer_refiner.specs.declared.fault.RefineFault.{RefineFault}
use Rattle.transfer_refiner.specs.declared.fault.RefineFault.TheVariants as refine
use Rattle.transfer_refiner.specs.Draft.{Draft}
use Rattle.transfer_refiner.specs.code.Refined.{Refines}
use Rattle.planner.specs.declared.inputs.Survey.{Survey}
use Rattle.planner.specs.declared.plan_fault.PlanFault.{PlanFault}
use Rattle.planner.specs.declared.plan_fault.PlanFault.TheVariants as plan
use Rattle.planner.specs.code.Course.{IsSurvey, Refuses}
use Rattle.planner.specs.code.PlanFault.{cluster_fault, refine_fault, select_fault}
use Rattle.planner.specs.code.Ordering.{CannotOrder}
use Rattle.planner.specs.code.Planning.{AreClustered, ArePlaced, CannotPlace, CannotPlan, CannotRefine, Fails, IsPlanOf, draft}
use Rattle.planner.specs.code.Sites.{AreLeveled, AreSelected, Chooses}

-- the id of the job at a place, and none where there is no job
abbrev pub id_in : Option Job → List ℕ
id_in None = []
id_in (Some j) = j.id

pub id_at : (js : List Job) (a : ℕ) → id_in (slice_get js a) ≡ slice_index_or (map (λ (j : Job). j.id) js) a []
id_at [] a = refl
id_at (j ∷ js) zero = refl
id_at (j ∷ js) (suc a) = id_at js a

pub unplaced : (r : PlanRequest) (s : Survey) (kept : List Bool) (levels : List ℕ) → AreLeveled r s kept levels → (f : SelectFault) → Chooses r.selector r s kept levels (Err f) → CannotPlace r s (select_fault s.workflow f)
unplaced r s kept levels leveled (select.NoSite a name) h = inl (record { kept = kept; levels = levels; leveled = leveled; select = select.NoSite a name; first = h; fault_is = refl })
unplaced r s kept levels leveled (select.NoTransformation a) h = inl (record { kept = kept; levels = levels; leveled = leveled; select = select.NoTransformation a; first = h; fault_is = refl })
unplaced r s kept levels leveled select.Memory h = tt

pub unclustered : (r : PlanRequest) (s : Survey) (kept : List Bool) (levels : List ℕ) (sites : List (Option SiteId)) → AreLeveled r s kept levels → AreSelected r s kept levels sites
    → (f : ClusterFault) → AreClustered r s kept levels sites (Err f) → CannotPlace r s (cluster_fault f)
unclustered r s kept levels sites leveled selected (cluster.BadNumber id key) h = inr (record { kept = kept; levels = levels; leveled = leveled; sites = sites; selected = selected; cluster = cluster.BadNumber id key; first = h; fault_is = refl })
unclustered r s kept levels sites leveled selected (cluster.LabelOverSites label one two) h = inr (record { kept = kept; levels = levels; leveled = leveled; sites = sites; selected = selected; cluster = cluster.LabelOverSites label one two; first = h; fault_is = refl })
unclustered r s kept levels sites leveled selected (cluster.ClusterCycle ids) h = inr (record { kept = kept; levels = levels; leveled = leveled; sites = sites; selected = selected; cluster = cluster.ClusterCycle ids; first = h; fault_is = refl })
unclustered r s kept levels sites leveled selected cluster.Memory h = tt

pub unrefined : (d : Draft) (limit : ℕ) (f : RefineFault) → Refines d limit (Err f) → CannotRefine d limit (refine_fault f)
unrefined d limit (refine.NoReplica lfn) h = record { refine = refine.NoReplica lfn; first = h; fault_is = refl }
unrefined d limit (refine.NoSize lfn) h = record { refine = refine.NoSize lfn; first = h; fault_is = refl }
unrefined d limit (refine.TooMany count most) h = record { refine = refine.TooMany count most; first = h; fault_is = refl }
unrefined d limit refine.Memory h = tt

pub cannot_place : (r : PlanRequest) (s : Survey) (limit : ℕ) (fault : PlanFault) → CannotPlace r s fault → CannotPlan r s limit fault
cannot_place r s limit plan.Memory h = tt
cannot_place r s limit fault h = inl h

pub cannot_refine : (r : PlanRequest) (s : Survey) (limit : ℕ) (sites : List (Option SiteId)) (clusters : Clusters) → ArePlaced r s sites clusters → (fault : PlanFault) → CannotRefine (draft r s sites clusters) limit fault → CannotPlan r s limit fault
cannot_refine r s limit sites clusters placed plan.Memory h = tt
cannot_refine r s limit sites clusters placed fault h = inr (inl (record { sites = sites; clusters = clusters; placed = placed; unrefined = h }))

pub fails_unread : (r : PlanRequest) (d : Documents) (limit : ℕ) (fault : PlanFault) → Refuses r d fault → Fails r d limit fault
fails_unread r d limit plan.Memory h = tt
fails_unread r d limit fault h = inl h

pub fails_unplanned : (r : PlanRequest) (d : Documents) (limit : ℕ) (s : Survey) (fault : PlanFault) → IsSurvey r d s → CannotPlan r s limit fault → Fails r d limit fault
fails_unplanned r d limit s plan.Memory says h = tt
fails_unplanned r d limit s fault says h = inr (record { survey = s; says = says; holds = h })

pub cannot_order : (r : PlanRequest) (s : Survey) (limit : ℕ) (p : Plan) → IsPlanOf r s limit p → (fault : PlanFault) → CannotOrder p fault → CannotPlan r s limit fault
cannot_order r s limit p planned plan.Memory h = tt
cannot_order r s limit p planned fault h = inr (inr (record { plan = p; planned = planned; passes = h }))
