-- What the documents of a request say, or their first fault.
use Rattle.std.specs.Prelude.{◌≡◌, ◌⊎◌, ℕ, List, codes, map, Option, Some, None, Result, Ok, Err}
use Rattle.values.specs.declared.documents.Documents.{Documents}
use Rattle.peg_json.specs.Elements.{first_unknown}
use Rattle.peg_json.specs.Tree.{◌>>=◌, some_or}
use Rattle.workflow_core.specs.View.{WorkflowEntry, workflow_view}
use Rattle.workflow_core.specs.declared.workflow.Workflow.{Workflow as WorkflowValue}
use Rattle.workflow_reader.specs.Linking as workflows
use Rattle.workflow_reader.specs.code.Unknown as workflow_keys
use Rattle.site_catalog.specs.Catalog as site_reader
use Rattle.site_catalog.specs.code.Unknown as site_keys
use Rattle.site_catalog.specs.declared.catalog.SiteEntry.{SiteEntry}
use Rattle.site_catalog.specs.declared.catalog.SiteCatalog.{SiteCatalog}
use Rattle.replica_catalog.specs.Catalog as replica_reader
use Rattle.replica_catalog.specs.code.Unknown as replica_keys
use Rattle.replica_catalog.specs.declared.catalog.ReplicaCatalog.{ReplicaCatalog}
use Rattle.transformation_catalog.specs.Catalog as transformation_reader
use Rattle.transformation_catalog.specs.code.Unknown as transformation_keys
use Rattle.transformation_catalog.specs.declared.catalog.TransformationCatalog.{TransformationCatalog}
use Rattle.transformation_catalog.specs.declared.catalog.TransformationEntry.{TransformationEntry}
use Rattle.plan_request.specs.declared.request.Execution.{Execution}
use Rattle.plan_request.specs.declared.request.PlanRequest.{PlanRequest}
use Rattle.dependency_graph.specs.code.Built.{AreTwoProducers, AreCycle}
use Rattle.dependency_graph.specs.Graph.{IsGraphOf}
use Rattle.planner.specs.declared.document.Document.TheVariants.{Workflow, Sites, Replicas, Transformations}
use Rattle.planner.specs.declared.plan_fault.PlanFault.{PlanFault}
use Rattle.planner.specs.declared.plan_fault.PlanFault.TheVariants as plan
use Rattle.planner.specs.declared.inputs.Survey.{Survey}
use Rattle.planner.specs.code.Catalogue.{IsListing, held, held_unknown}
use Rattle.planner.specs.code.PlanFault.{answered}

-- what four documents say
pub record SurveyEntry : Type 0 where
  pub workflow : WorkflowEntry
  pub sites : List SiteEntry
  pub replicas : replica_reader.CatalogEntry
  pub transformations : List TransformationEntry

-- ---- each document

abbrev pub workflow_in : List ℕ → Result WorkflowEntry PlanFault
workflow_in bytes = answered Workflow (workflows.workflow_from_text bytes)

-- a catalogue that has to be there
abbrev pub sites_in : Documents → WorkflowEntry → Result (List SiteEntry) PlanFault
sites_in d w = held Sites site_reader.site_catalog_from_text site_reader.site_catalog_from_tree
    (codes "siteCatalog") d.sites w.sites >>= some_or (plan.NoCatalogue Sites)

abbrev pub transformations_in : Documents → WorkflowEntry → Result (List TransformationEntry) PlanFault
transformations_in d w = held Transformations transformation_reader.transformation_catalog_from_text
    transformation_reader.transformation_catalog_from_tree
    (codes "transformationCatalog") d.transformations w.transformations >>= some_or
    (plan.NoCatalogue Transformations)

-- a catalogue that is empty where there is none
abbrev pub or_empty : Option replica_reader.CatalogEntry → Result replica_reader.CatalogEntry PlanFault
or_empty None = Ok replica_reader.no_replicas
or_empty (Some says) = Ok says

abbrev pub replicas_in : Documents → WorkflowEntry → Result replica_reader.CatalogEntry PlanFault
replicas_in d w = held Replicas replica_reader.replica_catalog_from_text replica_reader.replica_catalog_from_tree
    (codes "replicaCatalog") d.replicas w.replicas >>= or_empty

-- the paths of the keys of each catalogue that are in no table
abbrev pub unknown_in_sites : Documents → WorkflowEntry → List (List ℕ)
unknown_in_sites d w = held_unknown site_keys.unknown_in_text site_keys.unknown_of
    (codes "siteCatalog") d.sites w.sites

abbrev pub unknown_in_replicas : Documents → WorkflowEntry → List (List ℕ)
unknown_in_replicas d w = held_unknown replica_keys.unknown_in_text replica_keys.unknown_of
    (codes "replicaCatalog") d.replicas w.replicas

abbrev pub unknown_in_transformations : Documents → WorkflowEntry → List (List ℕ)
unknown_in_transformations d w =
    held_unknown transformation_keys.unknown_in_text transformation_keys.unknown_of
    (codes "transformationCatalog") d.transformations w.transformations

-- ---- the execution sites

abbrev pub execution_names : List Execution → List (List ℕ)
execution_names execute = map (λ (e : Execution). e.site) execute

abbrev pub unknown_refused : Option (List ℕ) → Result (Unit {0}) PlanFault
unknown_refused None = Ok tt
unknown_refused (Some name) = Err (plan.UnknownSite name)

abbrev pub all_listed : List SiteEntry → List Execution → Result (Unit {0}) PlanFault
all_listed sites execute = unknown_refused (first_unknown (site_reader.names_of sites)
    (execution_names execute))

-- ---- the course

-- what the documents say, or the first fault before the graph's
unfoldable pub surveyed : PlanRequest → Documents → Result SurveyEntry PlanFault
surveyed r d = do
  workflow ← workflow_in d.workflow
  sites ← sites_in d workflow
  replicas ← replicas_in d workflow
  transformations ← transformations_in d workflow
  listed ← all_listed sites r.execute
  Ok (record { workflow = workflow; sites = sites; replicas = replicas; transformations = transformations })

abbrev pub said_by : WorkflowValue → SiteCatalog → ReplicaCatalog → TransformationCatalog → SurveyEntry
said_by w s r t = record {
  workflow = workflow_view w;
  sites = site_reader.site_view s;
  replicas = replica_reader.replica_view r;
  transformations = transformation_reader.transformation_view t;
}

-- The paths of the keys that aren't acted on, document by document.
pub record ListsIgnored (d : Documents) (w : WorkflowValue) (s : SiteCatalog) (r : ReplicaCatalog)
    (t : TransformationCatalog) : Type 0 where
  pub workflow : IsListing (workflow_keys.unknown_in_text d.workflow) w.ignored
  pub sites : IsListing (unknown_in_sites d (workflow_view w)) s.ignored
  pub replicas : IsListing (unknown_in_replicas d (workflow_view w)) r.ignored
  pub transformations : IsListing (unknown_in_transformations d (workflow_view w)) t.ignored

-- This is what the documents say, with a graph of their workflow.
pub record IsSurvey (r : PlanRequest) (d : Documents) (s : Survey) : Type 0 where
  pub says : surveyed r d ≡ Ok (said_by s.workflow s.sites s.replicas s.transformations)
  pub ignored : ListsIgnored d s.workflow s.sites s.replicas s.transformations
  pub graph : IsGraphOf s.workflow s.graph

-- The documents have no fault, and this holds of their workflow.
pub record OfWorkflow (r : PlanRequest) (d : Documents) (P : WorkflowValue → Type 0) : Type 0 where
  pub said : SurveyEntry
  pub says : surveyed r d ≡ Ok said
  pub workflow : WorkflowValue
  pub is : workflow_view workflow ≡ said.workflow
  pub holds : P workflow

-- a workflow has no graph, for this reason
abbrev pub GraphRefuses : PlanFault → WorkflowValue → Type 0
GraphRefuses (plan.TwoProducers lfn one two) w = AreTwoProducers w lfn one two
GraphRefuses (plan.Cycle ids) w = AreCycle w ids
GraphRefuses fault w = ⊥

-- when each fault comes
abbrev pub Refuses : PlanRequest → Documents → PlanFault → Type 0
Refuses r d plan.Memory = Unit {0}
Refuses r d fault = (surveyed r d ≡ Err fault) ⊎ OfWorkflow r d (GraphRefuses fault)

abbrev pub Surveys : PlanRequest → Documents → Result Survey PlanFault → Type 0
Surveys r d (Ok s) = IsSurvey r d s
Surveys r d (Err fault) = Refuses r d fault
