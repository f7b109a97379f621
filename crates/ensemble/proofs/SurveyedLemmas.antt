-- A member whose request was surveyed: its documents' replicas are joined.
use Rattle.std.proofs.Common.{◌≡◌, ℕ, List, [], false, refl, sym, ap, subst, ◌∙◌}
use Rattle.std.specs.Prelude.{Option, Some, None, Result, Ok, Err}
use Rattle.serde_json.specs.Data.{Data}
use Rattle.values.specs.declared.documents.Documents.{Documents}
use Rattle.peg_json.specs.Tree.{then_read}
use Rattle.peg_json.specs.Tree.{tree_of}
use Rattle.peg_json.specs.declared.fault.TreeFault.{TreeFault}
use Rattle.peg_json.specs.declared.read_fault.ReadFault.{ReadFault}
use Rattle.workflow_core.specs.View.{WorkflowEntry}
use Rattle.workflow_core.specs.code.WellFormed.{IsWellFormed}
use Rattle.replica_catalog.specs.Catalog.{CatalogEntry, catalog_of, replica_catalog_from_tree, no_replicas, replica_catalog_from_text, replica_view}
use Rattle.replica_catalog.specs.Catalog.{replica_document_of}
use Rattle.plan_request.specs.code.Limits.{IsWithinLimits}
use Rattle.plan_request.specs.declared.request.PlanRequest.{PlanRequest}
use Rattle.plan_request.proofs.StepLemmas.{passed}
use Rattle.dependency_graph.specs.Graph.{IsGraphOf}
use Rattle.planner.specs.code.Catalogue.{found, held}
use Rattle.planner.specs.code.Course.{IsSurvey, SurveyEntry, all_listed, or_empty, replicas_in, said_by, sites_in, surveyed, transformations_in, workflow_in}
use Rattle.planner.specs.code.PlanFault.{answered}
use Rattle.planner.specs.declared.document.Document.{Document}
use Rattle.planner.specs.declared.document.Document.TheVariants.{Replicas}
use Rattle.planner.specs.declared.inputs.Survey.{Survey}
use Rattle.planner.specs.declared.plan_fault.PlanFault.{PlanFault}
use Rattle.planner.specs.declared.surveyed.Surveyed.{Surveyed}
use Rattle.ensemble.specs.declared.member.Member.{Member}
use Rattle.ensemble.specs.Member.{IsJoined, IsMember}
use Rattle.ensemble.specs.MemberEntry.{has_slash}

-- ---- what documents say of replicas is joined

then_ok : {A B : Type 0} (m : Result A TreeFault) (k : A → Result B ReadFault) (y : B) → then_read m k ≡ Ok y → (x : A) × (m ≡ Ok x) × (k x ≡ Ok y)
then_ok (Ok x) k y e = (x, refl, e)
then_ok (Err f) k y e = absurd cc

tree_joined : (path : List ℕ) (tree : Data) (c : CatalogEntry) → replica_catalog_from_tree path tree ≡ Ok c → IsJoined c
unfolding replica_catalog_from_tree
tree_joined path tree c e =
    let read = then_ok (replica_document_of path tree) (λ es. Ok (catalog_of es)) c e in
    let same : catalog_of read.0 ≡ c = let h = read.2 in cc in
    record { entries = read.0; joined_is = ap (λ (x : CatalogEntry). x.entries) (sym same) }

text_joined : (bytes : List ℕ) (c : CatalogEntry) → replica_catalog_from_text bytes ≡ Ok c → IsJoined c
unfolding replica_catalog_from_text
text_joined bytes c e = let read = then_ok (tree_of bytes) (replica_catalog_from_tree []) c e in tree_joined [] read.0 c read.2

found_ok : (which : Document) (r : Result CatalogEntry ReadFault) (c : CatalogEntry) → found (answered which r) ≡ Ok (Some c) → r ≡ Ok c
found_ok which (Ok x) c e = let same : x ≡ c = cc in ap Ok same
found_ok which (Err f) c e = absurd cc

held_joined : (key : List ℕ) (text : Option (List ℕ)) (tree : Option Data) (path : List ℕ) (c : CatalogEntry) → held Replicas replica_catalog_from_text replica_catalog_from_tree key text tree ≡ Ok (Some c) → IsJoined c
held_joined key (Some bytes) tree path c e = text_joined bytes c (found_ok Replicas (replica_catalog_from_text bytes) c e)
held_joined key None (Some tree) path c e = tree_joined _ tree c (found_ok Replicas (replica_catalog_from_tree _ tree) c e)
held_joined key None None path c e = absurd cc

or_joined : (o : Option CatalogEntry) (c : CatalogEntry) → or_empty o ≡ Ok c → ((x : CatalogEntry) → o ≡ Some x → IsJoined x) → IsJoined c
or_joined None c e h = let same : no_replicas ≡ c = cc in record { entries = []; joined_is = ap (λ (x : CatalogEntry). x.entries) (sym same) }
or_joined (Some x) c e h = let same : x ≡ c = cc in subst IsJoined same (h x refl)

replicas_joined : (d : Documents) (w : WorkflowEntry) (c : CatalogEntry) → replicas_in d w ≡ Ok c → IsJoined c
replicas_joined d w c e =
    let is = passed (held Replicas replica_catalog_from_text replica_catalog_from_tree _ d.replicas w.replicas) or_empty c e in
    or_joined is.value c is.rest (λ x h. held_joined _ d.replicas w.replicas [] x (is.is ∙ ap Ok h))

replicas_or : CatalogEntry → Result SurveyEntry PlanFault → CatalogEntry
replicas_or c (Ok said) = said.replicas
replicas_or c (Err f) = c

said_joined : (r : PlanRequest) (d : Documents) (said : SurveyEntry) → surveyed r d ≡ Ok said → IsJoined said.replicas
unfolding surveyed replicas_or
said_joined r d said e =
    let one = passed (workflow_in d.workflow) _ said e in
    let two = passed (sites_in d one.value) _ said one.rest in
    let three = passed (replicas_in d one.value) _ said two.rest in
    let four = passed (transformations_in d one.value) _ said three.rest in
    let five = passed (all_listed two.value r.execute) _ said four.rest in
    subst IsJoined (ap (replicas_or three.value) five.rest) (replicas_joined d one.value three.value three.is)

-- ---- members

pub is_member : (m : Member) (s : Surveyed) (d : Documents) → has_slash m.name ≡ false → m.request ≡ s.request → m.survey ≡ s.survey → IsSurvey s.request d s.survey → IsMember m
is_member m s d plain request survey is = record {
  plain_name = plain;
  well_formed = subst (λ (x : Survey). IsWellFormed x.workflow) (sym survey) s.well_formed;
  graph = subst (λ (x : Survey). IsGraphOf x.workflow x.graph) (sym survey) s.graph;
  joined = subst (λ (x : Survey). IsJoined (replica_view x.replicas)) (sym survey) (said_joined s.request d (said_by s.survey.workflow s.survey.sites s.survey.replicas s.survey.transformations) is.says);
  limits = subst IsWithinLimits (sym request) s.limits;
}
