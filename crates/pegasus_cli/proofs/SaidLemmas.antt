-- What documents are surveyed as is what they say, one by one, and the other way.
use Rattle.std.proofs.Common.{◌≡◌, List, [], ℕ, map, refl, sym, ap, subst, ◌∙◌}
use Rattle.std.specs.Prelude.{Option, Some, None, Result, Ok, Err, codes}
use Rattle.serde_json.specs.Data.{Data}
use Rattle.peg_json.specs.Elements.{first_unknown}
use Rattle.peg_json.specs.Path.{key_path}
use Rattle.peg_json.specs.Tree.{some_or, ◌>>=◌}
use Rattle.peg_json.specs.declared.read_fault.ReadFault.{ReadFault}
use Rattle.workflow_core.specs.View.{WorkflowEntry, workflow_view}
use Rattle.workflow_reader.specs.Linking as workflows
use Rattle.site_catalog.specs.Catalog as site_reader
use Rattle.replica_catalog.specs.Catalog as replica_reader
use Rattle.replica_catalog.specs.Catalog.{CatalogEntry, no_replicas}
use Rattle.transformation_catalog.specs.Catalog as transformation_reader
use Rattle.plan_request.specs.declared.request.Execution.{Execution}
use Rattle.plan_request.proofs.StepLemmas.{passed}
use Rattle.plan_request.specs.declared.request.PlanRequest.{PlanRequest}
use Rattle.values.specs.declared.documents.Documents.{Documents}
use Rattle.planner.specs.code.Catalogue.{found, held}
use Rattle.planner.specs.code.Course.{IsSurvey, SurveyEntry, all_listed, execution_names, or_empty, replicas_in, said_by, sites_in, surveyed as survey_of, transformations_in, unknown_refused, workflow_in}
use Rattle.planner.specs.code.PlanFault.{answered}
use Rattle.planner.specs.declared.document.Document.{Document}
use Rattle.planner.specs.declared.document.Document.TheVariants.{Replicas, Sites, Transformations, Workflow}
use Rattle.planner.specs.declared.inputs.Survey.{Survey}
use Rattle.planner.specs.declared.plan_fault.PlanFault.{PlanFault}
use Rattle.planner.specs.declared.plan_fault.PlanFault.TheVariants as plan
use Rattle.pegasus_cli.specs.Read.{SayThis, Says}

same_said : (a b : SurveyEntry) → ◌≡◌ {A = Result SurveyEntry PlanFault} (Ok a) (Ok b) → a ≡ b
same_said a b is = cc

answered_ok : {A : Type 0} (which : Document) (r : Result A ReadFault) (a : A) → answered which r ≡ Ok a → r ≡ Ok a
answered_ok {A} which (Ok x) a e = ap Ok (let same : ◌≡◌ {A = Result A PlanFault} (Ok x) (Ok a) = e in let is : x ≡ a = cc in is)
answered_ok which (Err f) a e = absurd cc

found_ok : {A : Type 0} (which : Document) (r : Result A ReadFault) (a : A) → found (answered which r) ≡ Ok (Some a) → r ≡ Ok a
found_ok {A} which (Ok x) a e = ap Ok (let same : ◌≡◌ {A = Result (Option A) PlanFault} (Ok (Some x)) (Ok (Some a)) = e in let is : x ≡ a = cc in is)
found_ok which (Err f) a e = absurd cc

found_some : {A : Type 0} (which : Document) (r : Result A ReadFault) → found (answered which r) ≡ Ok None → ⊥
found_some {A} which (Ok x) e = let clash : ◌≡◌ {A = Result (Option A) PlanFault} (Ok (Some x)) (Ok None) = e in absurd cc
found_some which (Err f) e = absurd cc

says_so : {A : Type 0} (which : Document) (read : List ℕ → Result A ReadFault) (from_tree : List ℕ → Data → Result A ReadFault) (key : List ℕ) (text : Option (List ℕ)) (tree : Option Data) (a : A) (Absent : Type 0)
    → held which read from_tree key text tree ≡ Ok (Some a) → Says read from_tree key text tree a Absent
says_so which read from_tree key (Some bytes) tree a Absent e = found_ok which (read bytes) a e
says_so which read from_tree key None (Some tree) a Absent e = found_ok which (from_tree (key_path [] key) tree) a e
says_so {A} which read from_tree key None None a Absent e = let clash : ◌≡◌ {A = Result (Option A) PlanFault} (Ok None) (Ok (Some a)) = e in absurd cc

-- where there is none
says_none : {A : Type 0} (which : Document) (read : List ℕ → Result A ReadFault) (from_tree : List ℕ → Data → Result A ReadFault) (key : List ℕ) (text : Option (List ℕ)) (tree : Option Data) (a : A) (Absent : Type 0)
    → held which read from_tree key text tree ≡ Ok None → Absent → Says read from_tree key text tree a Absent
says_none which read from_tree key (Some bytes) tree a Absent e absent = absurd (found_some which (read bytes) e)
says_none which read from_tree key None (Some tree) a Absent e absent = absurd (found_some which (from_tree (key_path [] key) tree) e)
says_none which read from_tree key None None a Absent e absent = absent

there : {A : Type 0} (fault : PlanFault) (o : Option A) (a : A) → some_or fault o ≡ Ok a → o ≡ Some a
there {A} fault (Some x) a e = ap Some (let same : ◌≡◌ {A = Result A PlanFault} (Ok x) (Ok a) = e in let is : x ≡ a = cc in is)
there fault None a e = absurd cc

replicas_so : (d : Documents) (w : WorkflowEntry) (c : CatalogEntry) → replicas_in d w ≡ Ok c → Says replica_reader.replica_catalog_from_text replica_reader.replica_catalog_from_tree (codes "replicaCatalog") d.replicas w.replicas c (c ≡ no_replicas)
replicas_so d w c e =
    let is = passed (held Replicas replica_reader.replica_catalog_from_text replica_reader.replica_catalog_from_tree (codes "replicaCatalog") d.replicas w.replicas) or_empty c e in
    by is.value is.is is.rest
  where
    by : (o : Option CatalogEntry) → held Replicas replica_reader.replica_catalog_from_text replica_reader.replica_catalog_from_tree (codes "replicaCatalog") d.replicas w.replicas ≡ Ok o → or_empty o ≡ Ok c → Says replica_reader.replica_catalog_from_text replica_reader.replica_catalog_from_tree (codes "replicaCatalog") d.replicas w.replicas c (c ≡ no_replicas)
    by None h k = says_none Replicas replica_reader.replica_catalog_from_text replica_reader.replica_catalog_from_tree (codes "replicaCatalog") d.replicas w.replicas c (c ≡ no_replicas) h (let same : ◌≡◌ {A = Result CatalogEntry PlanFault} (Ok no_replicas) (Ok c) = k in let is : c ≡ no_replicas = cc in is)
    by (Some x) h k = says_so Replicas replica_reader.replica_catalog_from_text replica_reader.replica_catalog_from_tree (codes "replicaCatalog") d.replicas w.replicas c (c ≡ no_replicas) (h ∙ ap Ok (let same : ◌≡◌ {A = Result CatalogEntry PlanFault} (Ok x) (Ok c) = k in let is : ◌≡◌ {A = Option CatalogEntry} (Some x) (Some c) = cc in is))

all_known : (o : Option (List ℕ)) → unknown_refused o ≡ Ok tt → o ≡ None
all_known None e = refl
all_known (Some name) e = absurd cc

-- what was said, document by document
record AreSaid (execute : List Execution) (d : Documents) (said : SurveyEntry) : Type 0 where
  pub workflow : workflows.workflow_from_text d.workflow ≡ Ok said.workflow
  pub sites : Says site_reader.site_catalog_from_text site_reader.site_catalog_from_tree (codes "siteCatalog") d.sites said.workflow.sites said.sites ⊥
  pub replicas : Says replica_reader.replica_catalog_from_text replica_reader.replica_catalog_from_tree (codes "replicaCatalog") d.replicas said.workflow.replicas said.replicas (said.replicas ≡ no_replicas)
  pub transformations : Says transformation_reader.transformation_catalog_from_text transformation_reader.transformation_catalog_from_tree (codes "transformationCatalog") d.transformations said.workflow.transformations said.transformations ⊥
  pub listed : first_unknown (site_reader.names_of said.sites) (map (λ (e : Execution). e.site) execute) ≡ None

said_so : (r : PlanRequest) (d : Documents) (said : SurveyEntry) → survey_of r d ≡ Ok said → AreSaid r.execute d said
unfolding survey_of
said_so r d said e =
    let one = passed (workflow_in d.workflow) _ said e in
    let two = passed (sites_in d one.value) _ said one.rest in
    let three = passed (replicas_in d one.value) _ said two.rest in
    let four = passed (transformations_in d one.value) _ said three.rest in
    let five = passed (all_listed two.value r.execute) _ said four.rest in
    let sites = passed (held Sites site_reader.site_catalog_from_text site_reader.site_catalog_from_tree (codes "siteCatalog") d.sites one.value.sites) (some_or (plan.NoCatalogue Sites)) two.value two.is in
    let transformations = passed (held Transformations transformation_reader.transformation_catalog_from_text transformation_reader.transformation_catalog_from_tree (codes "transformationCatalog") d.transformations one.value.transformations) (some_or (plan.NoCatalogue Transformations)) four.value four.is in
    subst (AreSaid r.execute d) (same_said (record { workflow = one.value; sites = two.value; replicas = three.value; transformations = four.value }) said five.rest) (record {
      workflow = answered_ok Workflow (workflows.workflow_from_text d.workflow) one.value one.is;
      sites = says_so Sites site_reader.site_catalog_from_text site_reader.site_catalog_from_tree (codes "siteCatalog") d.sites one.value.sites two.value ⊥ (sites.is ∙ ap Ok (there (plan.NoCatalogue Sites) sites.value two.value sites.rest));
      replicas = replicas_so d one.value three.value three.is;
      transformations = says_so Transformations transformation_reader.transformation_catalog_from_text transformation_reader.transformation_catalog_from_tree (codes "transformationCatalog") d.transformations one.value.transformations four.value ⊥ (transformations.is ∙ ap Ok (there (plan.NoCatalogue Transformations) transformations.value four.value transformations.rest));
      listed = all_known (first_unknown (site_reader.names_of two.value) (execution_names r.execute)) five.is;
    })

pub survey_said : (r : PlanRequest) (d : Documents) (s : Survey) → IsSurvey r d s → SayThis r.execute d s
survey_said r d s h =
    let said = said_so r d (said_by s.workflow s.sites s.replicas s.transformations) h.says in
    record { workflow = said.workflow; sites = said.sites; replicas = said.replicas; transformations = said.transformations; listed = said.listed; graph = h.graph }

-- ---- and the other way: they are surveyed as this

then_ok : {E A B : Type 0} (r : Result A E) (f : A → Result B E) (a : A) → r ≡ Ok a → (r >>= f) ≡ f a
then_ok r f a e = ap (λ x. x >>= f) e

held_so : {A : Type 0} (which : Document) (read : List ℕ → Result A ReadFault) (from_tree : List ℕ → Data → Result A ReadFault) (key : List ℕ) (text : Option (List ℕ)) (tree : Option Data) (a : A)
    → Says read from_tree key text tree a ⊥ → held which read from_tree key text tree ≡ Ok (Some a)
held_so which read from_tree key (Some bytes) tree a h = ap (λ r. found (answered which r)) h
held_so which read from_tree key None (Some tree) a h = ap (λ r. found (answered which r)) h
held_so which read from_tree key None None a h = absurd h

held_or : (read : List ℕ → Result CatalogEntry ReadFault) (from_tree : List ℕ → Data → Result CatalogEntry ReadFault) (key : List ℕ) (text : Option (List ℕ)) (tree : Option Data) (c : CatalogEntry)
    → Says read from_tree key text tree c (c ≡ no_replicas) → (held Replicas read from_tree key text tree >>= or_empty) ≡ Ok c
held_or read from_tree key (Some bytes) tree c h = ap (λ r. found (answered Replicas r) >>= or_empty) h
held_or read from_tree key None (Some tree) c h = ap (λ r. found (answered Replicas r) >>= or_empty) h
held_or read from_tree key None None c h = ap Ok (sym h)

pub survey_is : (r : PlanRequest) (d : Documents) (s : Survey) → SayThis r.execute d s → survey_of r d ≡ Ok (said_by s.workflow s.sites s.replicas s.transformations)
unfolding survey_of
survey_is r d s h =
    let w = workflow_view s.workflow in
    then_ok (workflow_in d.workflow) _ w (ap (answered Workflow) h.workflow)
    ∙ then_ok (sites_in d w) _ (site_reader.site_view s.sites) (ap (λ o. o >>= some_or (plan.NoCatalogue Sites)) (held_so Sites site_reader.site_catalog_from_text site_reader.site_catalog_from_tree (codes "siteCatalog") d.sites w.sites (site_reader.site_view s.sites) h.sites))
    ∙ then_ok (replicas_in d w) _ (replica_reader.replica_view s.replicas) (held_or replica_reader.replica_catalog_from_text replica_reader.replica_catalog_from_tree (codes "replicaCatalog") d.replicas w.replicas (replica_reader.replica_view s.replicas) h.replicas)
    ∙ then_ok (transformations_in d w) _ (transformation_reader.transformation_view s.transformations) (ap (λ o. o >>= some_or (plan.NoCatalogue Transformations)) (held_so Transformations transformation_reader.transformation_catalog_from_text transformation_reader.transformation_catalog_from_tree (codes "transformationCatalog") d.transformations w.transformations (transformation_reader.transformation_view s.transformations) h.transformations))
    ∙ then_ok (all_listed (site_reader.site_view s.sites) r.execute) _ tt (ap unknown_refused h.listed)
