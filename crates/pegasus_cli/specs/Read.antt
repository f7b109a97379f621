-- What was read before a run: the request, and what the documents say that it names.
use Rattle.std.specs.Prelude.{◌≡◌, ℕ, List, [], codes, map, Option, Some, None, MatchOption, Result, Ok}
use Rattle.serde_json.specs.Data.{Data}
use Rattle.values.specs.FileMap.{Files}
use Rattle.values.specs.declared.documents.Documents.{Documents}
use Rattle.peg_json.specs.Elements.{first_unknown}
use Rattle.peg_json.specs.Path.{key_path}
use Rattle.peg_json.specs.declared.read_fault.ReadFault.{ReadFault}
use Rattle.workflow_core.specs.View.{workflow_view}
use Rattle.workflow_reader.specs.Linking as workflows
use Rattle.site_catalog.specs.Catalog as site_reader
use Rattle.replica_catalog.specs.Catalog as replica_reader
use Rattle.transformation_catalog.specs.Catalog as transformation_reader
use Rattle.plan_request.specs.Request.{request_from_text}
use Rattle.plan_request.specs.declared.request.Execution.{Execution}
use Rattle.plan_request.specs.declared.request.PlanRequest.{PlanRequest}
use Rattle.dependency_graph.specs.Graph.{IsGraphOf}
use Rattle.planner.specs.declared.inputs.Survey.{Survey}
use Rattle.planner.specs.declared.surveyed.Surveyed.{Surveyed}
use Rattle.pegasus_commands.specs.Course.{IsDocument}

-- ---- which documents

-- the document of a name, or none where none is named
abbrev pub IsNamed : Option Files → Option (List ℕ) → Option (List ℕ) → Type 0
IsNamed told None bytes = bytes ≡ None
IsNamed told (Some name) bytes = MatchOption bytes ⊥ (IsDocument told name)

-- These are the documents that a request names.
pub record AreNamed (told : Option Files) (r : PlanRequest) (d : Documents) : Type 0 where
  pub workflow : IsDocument told r.workflow d.workflow
  pub sites : IsNamed told r.sites d.sites
  pub replicas : IsNamed told r.replicas d.replicas
  pub transformations : IsNamed told r.transformations d.transformations

-- ---- what they say

-- what the named document says, else the tree at a key of the workflow; where neither is there, this holds
abbrev pub Says : {A : Type 0} → (List ℕ → Result A ReadFault) → (List ℕ → Data → Result A ReadFault)
    → List ℕ → Option (List ℕ) → Option Data → A → Type 0 → Type 0
Says read from_tree key (Some bytes) tree said absent = read bytes ≡ Ok said
Says read from_tree key None (Some tree) said absent = from_tree (key_path [] key) tree ≡ Ok said
Says read from_tree key None None said absent = absent

-- This is what the documents say, with a graph of their workflow. Only a catalogue of replicas may be missing, and it is
-- empty then; each execution site stands in the catalogue of sites.
pub record SayThis (execute : List Execution) (d : Documents) (s : Survey) : Type 0 where
  pub workflow : workflows.workflow_from_text d.workflow ≡ Ok (workflow_view s.workflow)
  pub sites : Says site_reader.site_catalog_from_text site_reader.site_catalog_from_tree (codes "siteCatalog") d.sites
      (workflow_view s.workflow).sites (site_reader.site_view s.sites) ⊥
  pub replicas : Says replica_reader.replica_catalog_from_text replica_reader.replica_catalog_from_tree (codes "replicaCatalog") d.replicas
      (workflow_view s.workflow).replicas (replica_reader.replica_view s.replicas)
      (replica_reader.replica_view s.replicas ≡ replica_reader.no_replicas)
  pub transformations : Says transformation_reader.transformation_catalog_from_text transformation_reader.transformation_catalog_from_tree
      (codes "transformationCatalog") d.transformations (workflow_view s.workflow).transformations
      (transformation_reader.transformation_view s.transformations) ⊥
  pub listed : first_unknown (site_reader.names_of (site_reader.site_view s.sites))
      (map (λ (e : Execution). e.site) execute) ≡ None
  pub graph : IsGraphOf s.workflow s.graph

-- The document of this name says the request, and those that it names say what was surveyed.
pub record IsRead (told : Option Files) (name : List ℕ) (s : Surveyed) : Type 0 where
  pub bytes : List ℕ
  pub came : IsDocument told name bytes
  pub request : request_from_text bytes ≡ Ok s.request
  pub documents : Documents
  pub named : AreNamed told s.request documents
  pub say : SayThis s.request.execute documents s.survey
