-- When a fault is the first one.
use Rattle.std.proofs.Common.{◌≡◌, List, refl, inl, inr}
use Rattle.std.specs.Prelude.{Result, Ok, Err}
use Rattle.values.specs.declared.documents.Documents.{Documents}
use Rattle.workflow_core.specs.View.{WorkflowEntry, workflow_view}
use Rattle.workflow_core.specs.declared.workflow.Workflow.{Workflow}
use Rattle.site_catalog.specs.declared.catalog.SiteEntry.{SiteEntry}
use Rattle.replica_catalog.specs.Catalog.{CatalogEntry}
use Rattle.transformation_catalog.specs.declared.catalog.TransformationEntry.{TransformationEntry}
use Rattle.plan_request.specs.declared.request.PlanRequest.{PlanRequest}
use Rattle.dependency_graph.specs.code.Built.{Builds}
use Rattle.dependency_graph.specs.declared.fault.GraphFault.{GraphFault}
use Rattle.dependency_graph.specs.declared.fault.GraphFault.TheVariants as graph
use Rattle.planner.specs.declared.plan_fault.PlanFault.{PlanFault}
use Rattle.planner.specs.declared.plan_fault.PlanFault.TheVariants as plan
use Rattle.planner.specs.code.Course.{Refuses, SurveyEntry, all_listed, replicas_in, sites_in, surveyed, transformations_in, workflow_in}
use Rattle.planner.specs.code.PlanFault.{FailsPlan, graph_fault}

fails_as : {X Y : Type 0} (fault : PlanFault) (a : Result X PlanFault) (b : Result Y PlanFault) → FailsPlan fault a → (a ≡ Err fault → b ≡ Err fault) → FailsPlan fault b
fails_as plan.Memory a b h next = tt
fails_as fault a b h next = next h

-- the documents are read, and an execution site is at fault
pub fails_at_last : (r : PlanRequest) (d : Documents) (w : WorkflowEntry) (s : List SiteEntry) (p : CatalogEntry) (t : List TransformationEntry) (fault : PlanFault)
    → workflow_in d.workflow ≡ Ok w → sites_in d w ≡ Ok s → replicas_in d w ≡ Ok p → transformations_in d w ≡ Ok t
    → FailsPlan fault (all_listed s r.execute) → FailsPlan fault (surveyed r d)
unfolding surveyed
fails_at_last r d w s p t fault a b c e h = fails_as fault (all_listed s r.execute) (surveyed r d) h (λ f. rw a (rw b (rw c (rw e (rw f refl)))))

-- a fault of the documents
pub refuses_read : (r : PlanRequest) (d : Documents) (fault : PlanFault) → FailsPlan fault (surveyed r d) → Refuses r d fault
refuses_read r d plan.Memory h = tt
refuses_read r d fault h = inl h

-- a fault of the graph
pub refuses_graph : (r : PlanRequest) (d : Documents) (said : SurveyEntry) (w : Workflow) (fault : GraphFault) → surveyed r d ≡ Ok said → workflow_view w ≡ said.workflow → Builds w (Err fault) → Refuses r d (graph_fault fault)
refuses_graph r d said w (graph.TwoProducers lfn one two) says is h = inr (record { said = said; says = says; workflow = w; is = is; holds = h })
refuses_graph r d said w (graph.Cycle ids) says is h = inr (record { said = said; says = says; workflow = w; is = is; holds = h })
refuses_graph r d said w graph.Memory says is h = tt
