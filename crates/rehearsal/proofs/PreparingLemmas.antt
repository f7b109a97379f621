-- What a store of images tells, and why a workload is refused.
use Rattle.std.proofs.Common.{◌≡◌, ℕ, ◌+◌, ◌<◌, ◌&&◌, Bool, true, false, cond, not, List, [], ◌∷◌, length, drop, get_or, refl, sym, ap, subst, ◌∙◌, inl, inr}
use Rattle.std.specs.Prelude.{Option, Some, None, IfSome, Result, Ok, Err, IfErr, find, is_some, option_map, slice_get, slice_index_or}
use Rattle.std.specs.Cmp.{eq_by_cmp_equiv}
use Rattle.std.specs.Cmp.Lexicographic.{slice_cmp}
use Rattle.std.specs.FinMap.{get-insert}
use Rattle.std.specs.List.{AllByRecursion}
use Rattle.std.specs.Ordering.{is_eq, nat_cmp}
use Rattle.std.specs.Result.{IsErrAnd}
use Rattle.std.proofs.lemmas.Cmp.{nat_list_cmp_total}
use Rattle.std.proofs.lemmas.List.{drop_more, get_or-map}
use Rattle.std.proofs.lemmas.Option.{get_or_from_slice_get, slice_get_within}
use Rattle.sha2.specs.Sha256.{sha256}
use Rattle.outside.specs.code.Counts.{no_calls}
use Rattle.outside.specs.code.MemoryHost.{host_counts, host_store, with_replica}
use Rattle.outside.specs.code.Store.{blank}
use Rattle.values.specs.Apply.{Apply}
use Rattle.values.specs.declared.documents.Documents.{Documents}
use Rattle.outside.specs.declared.memory_host.MemoryHost.{MemoryHost}
use Rattle.outside.specs.declared.store.Store.{Store}
use Rattle.workflow_core.specs.declared.workflow.Job.{Job}
use Rattle.plan_request.specs.Request.{request_from_text}
use Rattle.plan_request.specs.declared.request.PlanRequest.{PlanRequest}
use Rattle.replica_catalog.specs.Lookup.{is_of, pfns_in}
use Rattle.replica_catalog.specs.declared.catalog.Pfn.{Pfn}
use Rattle.replica_catalog.specs.declared.catalog.Replica.{Replica}
use Rattle.dependency_graph.specs.Edges.{producer}
use Rattle.dependency_graph.proofs.ValueLemmas.{unmade}
use Rattle.workload_maker.specs.Catalogues.{request_text, sites_text, transformations_text}
use Rattle.workload_maker.specs.Jobs.{each}
use Rattle.workload_maker.specs.Making.{IsMontage}
use Rattle.workload_maker.specs.Replicas.{image_of, replicas_text}
use Rattle.workload_maker.specs.Workflow.{workflow_text}
use Rattle.workload_maker.specs.declared.making.Workload.{Workload}
use Rattle.planner.specs.code.Course.{IsSurvey, Refuses}
use Rattle.planner.specs.Meaning.{AreHonest, HoldsValue, IsHonest, Told, base, basis_of, first_told, value_of}
use Rattle.transfer_refiner.specs.Draft.{entry_in as entry_named}
use Rattle.planner.specs.code.PlanFault.{FailsPlan, answered}
use Rattle.planner.specs.declared.document.Document.TheVariants.{Request}
use Rattle.planner.specs.declared.inputs.Survey.{Survey}
use Rattle.planner.specs.declared.plan_fault.PlanFault.{PlanFault}
use Rattle.planner.specs.declared.plan_fault.PlanFault.TheVariants.{Memory}
use Rattle.planner.specs.declared.surveyed.Surveyed.{Surveyed}
use Rattle.rehearsal.specs.Preparing.{HasMosaic, IsPrepared, RefusesWorkload, documents_of, stored, told_by}
use Rattle.rehearsal.specs.declared.preparing.Prepared.{Prepared}
use Rattle.rehearsal.specs.Registered.{RegistersImages, are_at, is_free}
use Rattle.rehearsal.proofs.RegisteredLemmas.{IsAt, first_at, one_pfn, others_at}

-- ---- what is told

same_self : (x : List ℕ) → is_eq (slice_cmp nat_cmp x x) ≡ true
same_self x = (eq_by_cmp_equiv nat_list_cmp_total).refl x

-- one replica more
still_told : (s : Store) (pfn bytes q : List ℕ) → is_some (told_by s q) ≡ true → is_some (told_by (with_replica pfn bytes s) q) ≡ true
still_told s pfn bytes q h = ap is_some (get-insert nat_list_cmp_total s.replicas pfn bytes q) ∙ by (is_eq (slice_cmp nat_cmp q pfn))
  where
    by : (same : Bool) → is_some (cond same (Some bytes) (told_by s q)) ≡ true
    by true = refl
    by false = h

newly_told : (s : Store) (pfn bytes : List ℕ) → is_some (told_by (with_replica pfn bytes s) pfn) ≡ true
newly_told s pfn bytes =
    ap is_some (get-insert nat_list_cmp_total s.replicas pfn bytes pfn)
    ∙ ap (λ (same : Bool). is_some (cond same (Some bytes) (told_by s pfn))) (same_self pfn)

told_after : (xs : List (List ℕ × List ℕ)) (s : Store) (q : List ℕ) → is_some (told_by s q) ≡ true → is_some (told_by (stored xs s) q) ≡ true
told_after [] s q h = h
told_after (x ∷ xs) s q h = told_after xs (with_replica x.0 x.1 s) q (still_told s x.0 x.1 q h)

-- one place more
pub stored_more : (xs : List (List ℕ × List ℕ)) (i : ℕ) (x : List ℕ × List ℕ) (s : Store) → i < length xs → x ≡ get_or xs i x → stored (drop i xs) s ≡ stored (drop (i + 1) xs) (with_replica x.0 x.1 s)
stored_more xs i x s h is =
    ap (λ (l : List (List ℕ × List ℕ)). stored l s) (drop_more xs i x h ∙ ap (λ (y : List ℕ × List ℕ). y ∷ drop (i + 1) xs) (sym is))

-- An entry has one pfn, which is told, and no checksum.
record IsTold (told : Told) (e : Replica) : Type 0 where
  place : Pfn
  alone : e.pfns ≡ place ∷ []
  plain : e.checksum ≡ None
  there : is_some (told place.pfn) ≡ true

told_at : (told : Told) (pfn : List ℕ) (e : Replica) → IsAt pfn e → is_some (told pfn) ≡ true → IsTold told e
told_at told pfn e only there = record {
  place = only.place;
  alone = only.alone;
  plain = only.plain;
  there = ap (λ (q : List ℕ). is_some (told q)) only.is ∙ there;
}

-- an entry that is found is told by the store of the images
found_told : (xs : List (List ℕ × List ℕ)) (es : List Replica) (s : Store) (p : Replica → Bool) (e : Replica) → are_at xs es ≡ true → find p es ≡ Some e → IsTold (told_by (stored xs s)) e
found_told xs [] s p e all is = absurd (let clash : ◌≡◌ {A = Option Replica} None (Some e) = is in cc)
found_told [] (d ∷ es) s p e all is = absurd (let clash : false ≡ true = all in cc)
found_told (x ∷ xs) (d ∷ es) s p e all is =
    by (p d) is (λ k. found_told xs es (with_replica x.0 x.1 s) p e (others_at x.0 d xs es all) k)
  where
    here : IsTold (told_by (stored (x ∷ xs) s)) d
    here = told_at (told_by (stored (x ∷ xs) s)) x.0 d (one_pfn x.0 d (first_at x.0 d xs es all)) (told_after xs (with_replica x.0 x.1 s) x.0 (newly_told s x.0 x.1))

    by : (t : Bool) → cond t (Some d) (find p es) ≡ Some e → (find p es ≡ Some e → IsTold (told_by (stored (x ∷ xs) s)) e) → IsTold (told_by (stored (x ∷ xs) s)) e
    by true k later = subst (IsTold (told_by (stored (x ∷ xs) s))) (let same : d ≡ e = cc in same) here
    by false k later = later k

-- ---- honest replicas

-- an entry of which each pfn is told, for a file that no job makes
holds_value : (told : Told) (e : Replica) (v : Option (List ℕ)) (t : IsTold told e) → v ≡ told t.place.pfn → HoldsValue told e v
holds_value told e v t is = record {
  defined = ap is_some is ∙ t.there;
  held = subst (AllByRecursion (λ (x : Pfn). told x.pfn ≡ v)) (sym t.alone) (sym is, tt);
  checksum = subst (λ (sum : Option (List ℕ)). IfSome sum (λ (s : List ℕ). option_map sha256 v ≡ Some s)) (sym t.plain) tt;
}

-- a file that has an entry is made by no job
no_producer : (es : List Replica) (name : List ℕ) (e : Replica) (o : Option Job) → not (is_some o && is_some (find (is_of name) es)) ≡ true → find (is_of name) es ≡ Some e → o ≡ None
no_producer es name e None free is = refl
no_producer es name e (Some j) free is = absurd (let clash : false ≡ true = ap (λ (x : Option Replica). not (is_some x)) (sym is) ∙ free in cc)

-- the value of such a file stands at its pfn
value_told : (apply : Apply) (told : Told) (r : PlanRequest) (s : Survey) (f : ℕ) (name : List ℕ) (e : Replica) (x : Pfn) → producer s.workflow.jobs f ≡ None → slice_get s.workflow.files f ≡ Some name
    → find (is_of name) s.replicas.entries ≡ Some e → e.pfns ≡ x ∷ [] → value_of apply told r s f ≡ told x.pfn
value_told apply told r s f name e x none named is alone =
    unmade (basis_of apply told r s) s.workflow.jobs (length s.workflow.jobs) f none
    ∙ get_or-map (base told s.replicas.entries) s.workflow.files f [] None (slice_get_within s.workflow.files f name named)
    ∙ ap (base told s.replicas.entries) (get_or_from_slice_get s.workflow.files f name [] named)
    ∙ ap (λ (o : Option Replica). first_told told (pfns_in o)) is
    ∙ ap (first_told told) alone

-- where images alone are registered, their replicas are honest
pub are_honest : (xs : List (List ℕ × List ℕ)) (r : PlanRequest) (s : Survey) → RegistersImages s.workflow s.replicas.entries xs → (apply : Apply) → AreHonest apply (told_by (stored xs blank)) r s
are_honest xs r s registers apply f = by (slice_get s.workflow.files f) refl
  where
    entry : (name : List ℕ) (e : Replica) → slice_get s.workflow.files f ≡ Some name → find (is_of name) s.replicas.entries ≡ Some e → HoldsValue (told_by (stored xs blank)) e (value_of apply (told_by (stored xs blank)) r s f)
    entry name e named is =
        let t = found_told xs s.replicas.entries blank (is_of name) e registers.entries is in
        let same : slice_index_or s.workflow.files f [] ≡ name = get_or_from_slice_get s.workflow.files f name [] named in
        let free = ap (is_free s.workflow s.replicas.entries f) (sym same) ∙ registers.made f (slice_get_within s.workflow.files f name named) in
        let none = no_producer s.replicas.entries name e (producer s.workflow.jobs f) free is in
        holds_value (told_by (stored xs blank)) e (value_of apply (told_by (stored xs blank)) r s f) t (value_told apply (told_by (stored xs blank)) r s f name e t.place none named is t.alone)

    found : (name : List ℕ) (o : Option Replica) → slice_get s.workflow.files f ≡ Some name → find (is_of name) s.replicas.entries ≡ o → IfSome o (IsHonest (told_by (stored xs blank)) (value_of apply (told_by (stored xs blank)) r s f))
    found name None named is = tt
    found name (Some e) named is = λ x rest pfns. entry name e named is

    by : (o : Option (List ℕ)) → slice_get s.workflow.files f ≡ o → IfSome (entry_named s.replicas.entries o) (IsHonest (told_by (stored xs blank)) (value_of apply (told_by (stored xs blank)) r s f))
    by None named = tt
    by (Some name) named = found name (find (is_of name) s.replicas.entries) named refl

-- ---- refusals

-- the request can't be read
pub refuses_request : (n : ℕ) (fault : PlanFault) → FailsPlan fault (answered Request (request_from_text (request_text n))) → RefusesWorkload n fault
refuses_request n Memory h = tt
refuses_request n fault h = inl h

-- its documents have a fault
pub refuses_documents : (n : ℕ) (request : PlanRequest) (fault : PlanFault) → answered Request (request_from_text (request_text n)) ≡ Ok request → Refuses request (documents_of n) fault → RefusesWorkload n fault
refuses_documents n request Memory asked h = tt
refuses_documents n request fault asked h = inr (record { request = request; asked = asked; refuses = h })

-- want of memory
pub want_of_memory : (n : ℕ) (r : Result Prepared PlanFault) → IsErrAnd r (λ (fault : PlanFault). fault ≡ Memory) → IfErr r (RefusesWorkload n)
want_of_memory n (Ok x) is = tt
want_of_memory n (Err fault) is = subst (RefusesWorkload n) (sym is) tt

-- ---- what is ready

abbrev documents : List ℕ → Option (List ℕ) → Option (List ℕ) → Option (List ℕ) → Documents
documents w s r t = record { workflow = w; sites = s; replicas = r; transformations = t }

documents_are : (d : Documents) (w : List ℕ) (s r t : Option (List ℕ)) → d.workflow ≡ w → d.sites ≡ s → d.replicas ≡ r → d.transformations ≡ t → d ≡ documents w s r t
documents_are d w s r t p q u v =
    ap (λ (x : List ℕ). documents x d.sites d.replicas d.transformations) p
    ∙ ap (λ (x : Option (List ℕ)). documents w x d.replicas d.transformations) q
    ∙ ap (λ (x : Option (List ℕ)). documents w s x d.transformations) u
    ∙ ap (λ (x : Option (List ℕ)). documents w s r x) v

-- the documents of a workload
pub montage_documents : (n : ℕ) (w : Workload) → IsMontage n w → w.documents ≡ documents_of n
montage_documents n w is = documents_are w.documents (workflow_text n) (Some sites_text) (Some (replicas_text n)) (Some transformations_text) is.workflow is.sites is.replicas is.transformations

-- its request, as it is read
pub montage_request : (n : ℕ) (w : Workload) (request : PlanRequest) → IsMontage n w → answered Request (request_from_text w.request) ≡ Ok request → answered Request (request_from_text (request_text n)) ≡ Ok request
montage_request n w request is asked = ap (λ (text : List ℕ). answered Request (request_from_text text)) (sym is.request) ∙ asked

pub is_prepared : (n : ℕ) (w : Workload) (request : PlanRequest) (s : Surveyed) (h : MemoryHost) → IsMontage n w → answered Request (request_from_text w.request) ≡ Ok request → s.request ≡ request
    → IsSurvey request w.documents s.survey → RegistersImages s.survey.workflow s.survey.replicas.entries w.replicas.items → HasMosaic s → host_store h ≡ stored w.replicas.items blank → host_counts h ≡ no_calls
    → IsPrepared n (record { surveyed = s; host = h })
is_prepared n w request s h is asked same survey registers mosaic store counts = record {
  surveyed = record {
    request = subst (λ (r : PlanRequest). answered Request (request_from_text (request_text n)) ≡ Ok r) (sym same) (montage_request n w request is asked);
    survey = subst (λ (r : PlanRequest). IsSurvey r (documents_of n) s.survey) (sym same) (subst (λ (d : Documents). IsSurvey request d s.survey) (montage_documents n w is) survey);
  };
  store = store ∙ ap (λ (xs : List (List ℕ × List ℕ)). stored xs blank) is.images;
  counts = counts;
  honest = λ apply. are_honest (each n image_of) s.request s.survey (subst (RegistersImages s.survey.workflow s.survey.replicas.entries) is.images registers) apply;
  mosaic = mosaic;
}
