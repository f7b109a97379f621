-- Single jobs that are placed make a draft.
use Rattle.std.proofs.Common.{◌≡◌, ℕ, zero, suc, ◌<◌, ◌≤◌, Bool, true, false, ◌||◌, nat_eq, List, [], ◌∷◌, ◌++◌, length, refl, sym, ap, subst, ◌∙◌, arith}
use Rattle.std.specs.Prelude.{Option, Some, None, option_map, slice_get, slice_index_or}
use Rattle.std.specs.List.{list_any}
use Rattle.std.proofs.lemmas.Option.{slice_get-map}
use Rattle.values.specs.declared.numbers.JobId.{JobId}
use Rattle.values.specs.declared.numbers.SiteId.{SiteId}
use Rattle.workflow_core.specs.declared.workflow.Workflow.{Workflow}
use Rattle.dependency_graph.specs.Edges.{edge, is_paired, passes_file, read_by, written_by}
use Rattle.digraph.specs.Cycle.{Returns}
use Rattle.digraph.specs.Distances.{Walk}
use Rattle.plan_core.specs.Numbers.{has}
use Rattle.plan_core.specs.Words.{job_numbers}
use Rattle.plan_request.specs.declared.request.PlanRequest.{PlanRequest}
use Rattle.replica_catalog.specs.declared.catalog.Replica.{Replica}
use Rattle.replica_catalog.specs.declared.catalog.ReplicaCatalog.{ReplicaCatalog}
use Rattle.workflow_core.specs.declared.clusters.Clusters.{Clusters}
use Rattle.transfer_refiner.specs.Draft.{Draft, planned, number_of_site, site_of}
use Rattle.transfer_refiner.specs.code.Conditions.{IsDraft, IsOnce, IsOrdered, leads}
use Rattle.transfer_refiner.specs.Tasks.{part_of}
use Rattle.transfer_refiner.specs.code.Singles.{ArePlaced, single, singles}
use Rattle.transfer_refiner.proofs.SitesLemmas.{few_sites, site_names}
use Rattle.transfer_refiner.proofs.LookupLemmas.{list_at, list_none}
use Rattle.plan_core.proofs.TestLemmas.{both, or_left, or_right, same_number}

abbrev draft : Workflow → List JobId → List (Option SiteId) → List Replica → PlanRequest → Draft
draft w js sites rs r = record { workflow = w; parts = singles js; sites = sites; replicas = rs; request = r }

-- ---- what stands in a part

data PartIs (js : List JobId) (c : ℕ) : Type 0 where
  One : (j : JobId) → slice_get js c ≡ Some j → slice_index_or (singles js) c [] ≡ single j → PartIs js c
  Empty : slice_index_or (singles js) c [] ≡ [] → PartIs js c

part_is : (js : List JobId) (c : ℕ) → PartIs js c
part_is js c = by (slice_get js c) refl
  where
    at : slice_get (singles js) c ≡ option_map single (slice_get js c)
    at = slice_get-map single js c

    by : (o : Option JobId) → slice_get js c ≡ o → PartIs js c
    by None e = Empty (list_none (singles js) c [] (at ∙ ap (option_map single) e))
    by (Some j) e = One j e (list_at (singles js) c (single j) [] (at ∙ ap (option_map single) e))

-- the only number in a single part
the_job : (i j : ℕ) → has (i ∷ []) j ≡ true → i ≡ j
the_job i j h = by (nat_eq i j) refl h
  where
    by : (b : Bool) → nat_eq i j ≡ b → (b || false) ≡ true → i ≡ j
    by true e k = same_number i j e
    by false e k = absurd cc

data Holds (js : List JobId) (c j : ℕ) : Type 0 where
  Held : (i : JobId) → slice_get js c ≡ Some i → i.0 ≡ j → Holds js c j

holds : (js : List JobId) (c j : ℕ) → has (job_numbers (slice_index_or (singles js) c [])) j ≡ true → Holds js c j
holds js c j h = by (part_is js c)
  where
    by : PartIs js c → Holds js c j
    by (One i e k) = Held i e (the_job i.0 j (subst (λ (p : List JobId). has (job_numbers p) j ≡ true) k h))
    by (Empty k) = absurd (let x : false ≡ true = subst (λ (p : List JobId). has (job_numbers p) j ≡ true) k h in cc)

-- ---- splits of a list with one element

data OnlySplit (i j : JobId) (done later : List JobId) : Type 0 where
  Only : done ≡ [] → later ≡ [] → i ≡ j → OnlySplit i j done later

only_split : (i j : JobId) (done later : List JobId) → single i ≡ done ++ j ∷ later → OnlySplit i j done later
only_split i j [] [] e = Only refl refl cc
only_split i j [] (x ∷ later) e = absurd cc
only_split i j (x ∷ []) later e = absurd cc
only_split i j (x ∷ y ∷ done) later e = absurd cc

no_split : (j : JobId) (done later : List JobId) → [] ≡ done ++ j ∷ later → ⊥
no_split j [] later e = absurd cc
no_split j (x ∷ done) later e = absurd cc

single_once : (i : JobId) → IsOnce (single i)
single_once i done later j e = by (only_split i j done later e)
  where
    by : OnlySplit i j done later → has (job_numbers later) j.0 ≡ false
    by (Only d l k) = ap (λ (xs : List JobId). has (job_numbers xs) j.0) l

empty_once : IsOnce []
empty_once done later j e = absurd (no_split j done later e)

part_once : (js : List JobId) (c : ℕ) → IsOnce (slice_index_or (singles js) c [])
part_once js c = by (part_is js c)
  where
    by : PartIs js c → IsOnce (slice_index_or (singles js) c [])
    by (One i e k) = subst IsOnce (sym k) (single_once i)
    by (Empty k) = subst IsOnce (sym k) empty_once

-- ---- a job reads nothing that it makes

found : (fs : List ℕ) (test : ℕ → Bool) (f : ℕ) → has fs f ≡ true → test f ≡ true → list_any test fs ≡ true
found [] test f h k = absurd cc
found (g ∷ fs) test f h k = by (nat_eq g f) refl h (λ l. found fs test f l k)
  where
    by : (b : Bool) → nat_eq g f ≡ b → (b || has fs f) ≡ true → (has fs f ≡ true → list_any test fs ≡ true) → (test g || list_any test fs) ≡ true
    by true e l later = or_left (test g) (list_any test fs) (ap test (same_number g f e) ∙ k)
    by false e l later = or_right (test g) (list_any test fs) (later l)

passes_itself : (w : Workflow) (a f : ℕ) → has (read_by w a) f ≡ true → has (written_by w a) f ≡ true → edge w a a ≡ true
unfolding edge
passes_itself w a f h k = or_left (passes_file w a a) (is_paired w a a) (found (read_by w a) (λ g. has (written_by w a) g) f h k)

single_ordered : (d : Draft) (i : JobId) → ((a : ℕ) → Returns (edge d.workflow) a → ⊥) → IsOrdered d (single i)
single_ordered d i none done later j e f h k = by (only_split i j done later e)
  where
    made : (b : Bool) → (b || false) ≡ true → b ≡ true
    made true l = refl
    made false l = absurd cc

    by : OnlySplit i j done later → list_any (λ (x : JobId). has (written_by d.workflow x.0) f) done ≡ true
    by (Only u l m) =
        let written : has (written_by d.workflow j.0) f ≡ true = subst (λ (x : JobId). has (written_by d.workflow x.0) f ≡ true) m (made (has (written_by d.workflow i.0) f) k) in
        absurd (none j.0 (zero, (j.0, passes_itself d.workflow j.0 f h written, refl)))

empty_ordered : (d : Draft) → IsOrdered d []
empty_ordered d done later j e f h k = absurd (no_split j done later e)

-- ---- parts lead as jobs do

abbrev first : List ℕ → ℕ
first [] = 0
first (x ∷ xs) = x

abbrev Leads : Workflow → List JobId → List JobId → Type 0
Leads w xs ys = list_any (λ i. list_any (λ j. edge w i j) (job_numbers ys)) (job_numbers xs) ≡ true → edge w (first (job_numbers xs)) (first (job_numbers ys)) ≡ true

one_leads : (w : Workflow) (i j : JobId) → Leads w (single i) (single j)
one_leads w i j h = by (edge w i.0 j.0) h
  where
    by : (b : Bool) → ((b || false) || false) ≡ true → b ≡ true
    by true k = refl
    by false k = absurd cc

parts_lead : (w : Workflow) (js : List JobId) (a b : ℕ) → Leads w (slice_index_or (singles js) a []) (slice_index_or (singles js) b [])
parts_lead w js a b = by (part_is js a) (part_is js b)
  where
    pa : List JobId
    pa = slice_index_or (singles js) a []

    pb : List JobId
    pb = slice_index_or (singles js) b []

    by : PartIs js a → PartIs js b → Leads w pa pb
    by (One i e k) (One j f l) = subst (λ (xs : List JobId). Leads w xs pb) (sym k) (subst (Leads w (single i)) (sym l) (one_leads w i j))
    by (One i e k) (Empty l) = subst (λ (xs : List JobId). Leads w xs pb) (sym k) (subst (Leads w (single i)) (sym l) (λ h. absurd cc))
    by (Empty k) other = subst (λ (xs : List JobId). Leads w xs pb) (sym k) (λ h. absurd cc)

job_leads : (d : Draft) (js : List JobId) → d.parts ≡ singles js → (a b : ℕ) → leads d a b ≡ true → edge d.workflow (first (part_of d a)) (first (part_of d b)) ≡ true
unfolding leads
job_leads d js e a b h =
    subst (λ (parts : List (List JobId)). Leads d.workflow (slice_index_or parts a []) (slice_index_or parts b [])) (sym e) (parts_lead d.workflow js a b) (both _ _ h).1

walks : (d : Draft) (js : List JobId) → d.parts ≡ singles js → (n a b : ℕ) → Walk (leads d) n a b → Walk (edge d.workflow) n (first (part_of d a)) (first (part_of d b))
walks d js e zero a b h = ap (λ c. first (part_of d c)) h
walks d js e (suc n) a b h = (first (part_of d h.0), job_leads d js e a h.0 h.1, walks d js e n h.0 b h.2)

-- ---- the draft

length_map_ : (js : List JobId) → length (singles js) ≡ length js
length_map_ [] = refl
length_map_ (j ∷ js) = ap suc (length_map_ js)

nowhere : (js : List JobId) (c : ℕ) → slice_index_or (singles js) c [] ≡ [] → length js ≤ c
nowhere [] c h = omega (arith)
nowhere (j ∷ js) zero h = absurd cc
nowhere (j ∷ js) (suc c) h = omega (arith, nowhere js c h)

has_site : (w : Workflow) (js : List JobId) (sites : List (Option SiteId)) (rs : List Replica) (r : PlanRequest) → ArePlaced w r sites js → (c : ℕ) → c < length (singles js) → site_of (draft w js sites rs r) (slice_index_or (singles js) c []) < length r.execute
has_site w js sites rs r p c l = by (part_is js c)
  where
    d : Draft
    d = draft w js sites rs r

    by : PartIs js c → site_of d (slice_index_or (singles js) c []) < length r.execute
    by (Empty k) = absurd omega (arith, l, length_map_ js, nowhere js c k)
    by (One j e k) =
        let s = (p.placed c j e).0 in
        let is : slice_get sites j.0 ≡ Some (Some s) = (p.placed c j e).1 in
        let small : number_of_site (slice_get sites j.0) < length r.execute = subst (λ (o : Option (Option SiteId)). number_of_site o < length r.execute) (sym is) (p.sites_below j.0 s is) in
        subst (λ (xs : List JobId). site_of d xs < length r.execute) (sym k) small

one_part_each : (w : Workflow) (js : List JobId) (sites : List (Option SiteId)) (r : PlanRequest) → ArePlaced w r sites js → (a b j : ℕ) → Holds js a j → Holds js b j → a ≡ b
one_part_each w js sites r p a b j (Held i e k) (Held m f l) = p.once a b i m e f (k ∙ sym l)

below_all : (w : Workflow) (js : List JobId) (sites : List (Option SiteId)) (r : PlanRequest) → ArePlaced w r sites js → (c j : ℕ) → Holds js c j → j < length w.jobs
below_all w js sites r p c j (Held i e k) = subst (λ n. n < length w.jobs) k (p.below c i e)

single_draft : (w : Workflow) (js : List JobId) (sites : List (Option SiteId)) (rs : List Replica) (r : PlanRequest) → ArePlaced w r sites js → IsDraft (draft w js sites rs r)
single_draft w js sites rs r p = record {
  formed = p.formed;
  sound = p.sound;
  few_sites = few_sites r.execute p.checked;
  site_names = site_names r.execute p.checked;
  jobs_placed = p.jobs_placed;
  sites_below = p.sites_below;
  jobs_below = λ c j h. below_all w js sites r p c j (holds js c j h);
  one_part = λ a b j h k. one_part_each w js sites r p a b j (holds js a j h) (holds js b j k);
  once = part_once js;
  few_parts = omega (arith, length_map_ js, p.few);
  site_below = has_site w js sites rs r p;
  ordered = λ c. ordered_ c;
  acyclic = λ c h. p.sound.no_return (first (part_of d c)) (h.0, walks d js refl (suc h.0) c c h.1);
}
  where
    d : Draft
    d = draft w js sites rs r

    ordered_ : (c : ℕ) → IsOrdered d (slice_index_or (singles js) c [])
    ordered_ c = by (part_is js c)
      where
        by : PartIs js c → IsOrdered d (slice_index_or (singles js) c [])
        by (One i e k) = subst (IsOrdered d) (sym k) (single_ordered d i p.sound.no_return)
        by (Empty k) = subst (IsOrdered d) (sym k) (empty_ordered d)

pub single_jobs : (w : Workflow) (js : List JobId) (c : Clusters) (sites : List (Option SiteId)) (rs : ReplicaCatalog) (r : PlanRequest) → ArePlaced w r sites js → c.parts ≡ singles js → IsDraft (planned w c sites rs r)
single_jobs w js c sites rs r p e = subst (λ (parts : List (List JobId)). IsDraft (record { workflow = w; parts = parts; sites = sites; replicas = rs.entries; request = r })) (sym e) (single_draft w js sites rs.entries r p)
