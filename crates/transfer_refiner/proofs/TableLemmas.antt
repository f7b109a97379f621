-- The tables of a draft's plan.
use Rattle.std.proofs.Common.{◌≡◌, ℕ, zero, suc, ◌+◌, ◌<◌, ◌≤◌, ◌^◌, Bool, true, false, not, ◌||◌, ◌&&◌, List, [], ◌∷◌, ◌++◌, length, map, take, refl, sym, ap, ◌∙◌, nat_eq, nat_lt, arith, subst, length-append, inl, inr}
use Rattle.std.specs.Prelude.{Option, Some, None, slice_get, slice_index_or}
use Rattle.std.specs.Str.{bytes_eq}
use Rattle.std.specs.Cmp.Lexicographic.{nat_list_eq_equiv}
use Rattle.std.specs.List.{list_any, list_all, AllByRecursion, IsDistinct}
use Rattle.std.proofs.lemmas.List.{length-map, take_more, map-append}
use Rattle.std.proofs.lemmas.List.Folds.{list_any-append}
use Rattle.values.specs.declared.numbers.FileId.{FileId}
use Rattle.values.specs.declared.numbers.JobId.{JobId}
use Rattle.values.specs.declared.numbers.SiteId.{SiteId}
use Rattle.workflow_core.specs.declared.workflow.Job.{Job}
use Rattle.workflow_core.specs.code.WellFormed.{are_new}
use Rattle.dependency_graph.specs.Edges.{read_by, written_by}
use Rattle.plan_request.specs.declared.request.Execution.{Execution}
use Rattle.plan_request.specs.declared.request.ToolOf.{ToolOf}
use Rattle.plan_core.specs.declared.plan.Pair.{Pair}
use Rattle.plan_core.specs.declared.plan.Plan.{Plan}
use Rattle.plan_core.specs.declared.plan.PlanFile.{PlanFile}
use Rattle.plan_core.specs.declared.plan.PlanJob.{PlanJob}
use Rattle.plan_core.specs.declared.plan.PlanSite.{PlanSite}
use Rattle.plan_core.specs.declared.plan.Task.{Task}
use Rattle.plan_core.specs.declared.plan.TaskKind.{TaskKind}
use Rattle.plan_core.specs.Numbers.{has, below}
use Rattle.plan_core.specs.Words.{kind, kind_in, inputs_in, outputs_in, inputs, outputs, file_numbers, job_numbers}
use Rattle.plan_core.specs.code.Proper.{is_site_below, are_files_below, are_jobs_below, is_source_below, is_pair_in_range, is_job_in_range, is_kind_in_range, IsInRange, is_before, rise_after, are_rising, HasTables}
use Rattle.transfer_refiner.specs.Draft.{Draft, site_of, stands, home, pfns_of, chosen, first_pfn, draft_file_name}
use Rattle.transfer_refiner.specs.Tasks.{count_files, count_execution_sites, grid, source, pair_of, pairs_of, jobs_of, planned_site, planned_file, kinds_of}
use Rattle.transfer_refiner.specs.code.Tasks.{first_fault}
use Rattle.transfer_refiner.specs.code.Conditions.{IsDraft}
use Rattle.transfer_refiner.specs.Refined.{IsRefined}
use Rattle.plan_core.proofs.TestLemmas.{is_itself, both, and_both, not_true, or_left, or_right}
use Rattle.transfer_refiner.proofs.SliceLemmas.{place_map, map_place, grid_place, any_at_place}
use Rattle.transfer_refiner.proofs.SortLemmas.{Sort, a_run, a_transfer, a_delivery, sorted}
use Rattle.transfer_refiner.proofs.JobsLemmas.{used_below, made_below}
use Rattle.transfer_refiner.proofs.PlanJobsLemmas.{inputs_are, outputs_are}
use Rattle.transfer_refiner.proofs.StandingLemmas.{made_within, home_made, site_in_range}
use Rattle.transfer_refiner.proofs.MakersLemmas.{in_part}
use Rattle.transfer_refiner.proofs.TogetherLemmas.{few_pairs, count_small}
use Rattle.transfer_refiner.proofs.GridRisesLemmas.{IsBefore, grid_rises}

jobs_long : (tools : List ToolOf) (js : List Job) (ss : List (Option SiteId)) → length ss ≡ length js → length (jobs_of tools js ss) ≡ length js
jobs_long tools [] ss e = refl
jobs_long tools (x ∷ js) [] e = absurd (omega arith)
jobs_long tools (x ∷ js) (s ∷ ss) e = let r : length (jobs_of tools js ss) ≡ length js = jobs_long tools js ss (omega arith) in omega (arith, r)

job_site : (tools : List ToolOf) (js : List Job) (ss : List (Option SiteId)) (i : ℕ) (x : PlanJob) → slice_get (jobs_of tools js ss) i ≡ Some x → slice_get ss i ≡ Some x.site
job_site tools [] ss i x e = absurd cc
job_site tools (j ∷ js) [] i x e = absurd cc
job_site tools (j ∷ js) (s ∷ ss) zero x e = cc
job_site tools (j ∷ js) (s ∷ ss) (suc i) x e = job_site tools js ss i x e

pub all_long : (n : ℕ) → length (below n (λ f. true)) ≡ n
unfolding below
all_long zero = refl
all_long (suc n) = omega (arith, all_long n, length-append (below n (λ f. true)) (n ∷ []))

pub count_jobs_is : (d : Draft) (p : Plan) → IsDraft d → IsRefined d p → length p.jobs ≡ length d.workflow.jobs
count_jobs_is d p draft refined = ap length refined.jobs ∙ jobs_long d.request.tools d.workflow.jobs d.sites draft.jobs_placed

pub count_files_is : (d : Draft) (p : Plan) → IsRefined d p → length p.files ≡ count_files d
count_files_is d p refined = ap length refined.files ∙ length-map (below (count_files d) (λ f. true)) (planned_file d) ∙ all_long (count_files d)

pub count_sites_is : (d : Draft) (p : Plan) → IsRefined d p → length p.sites ≡ count_execution_sites d
count_sites_is d p refined = ap length refined.sites ∙ length-map d.request.execute planned_site

low_true : (a b : ℕ) → a < b → nat_lt a b ≡ true
low_true a b l = grind arith

all_listed : {A : Type 0} (test : A → Bool) (xs : List A) → ((i : ℕ) (x : A) → slice_get xs i ≡ Some x → test x ≡ true) → list_all test xs ≡ true
all_listed test [] h = refl
all_listed test (x ∷ xs) h = and_both (test x) (list_all test xs) (h 0 x refl) (all_listed test xs (λ i y e. h (suc i) y e))

source_below : (d : Draft) → IsDraft d → (n g : ℕ) (x : List ℕ) → n ≡ count_execution_sites d → is_source_below n (source (home d g) x) ≡ true
source_below d draft n g x e = by (home d g) refl
  where
    by : (o : Option ℕ) → home d g ≡ o → is_source_below n (source o x) ≡ true
    by None h = refl
    by (Some a) h = low_true a n (let l : a < count_execution_sites d = (made_within d draft a g (home_made d g a h)).site in omega arith)

kind_in_range : (d : Draft) (p : Plan) → IsDraft d → IsRefined d p → (t : ℕ) (k : TaskKind) → Sort d t k → is_kind_in_range p k ≡ true
kind_in_range d p draft refined t k (a_run js at is) =
    ap (is_kind_in_range p) (sym is)
    ∙ and_both (nat_lt (site_of d js) (length p.sites)) (are_jobs_below (length p.jobs) js)
    (low_true (site_of d js) (length p.sites) (let l : site_of d js < count_execution_sites d = site_in_range d draft t (site_of d js) js at refl in omega (arith, l, count_sites_is d p refined)))
    (all_listed (λ (j : JobId). nat_lt j.0 (length p.jobs)) js (λ i j e. low_true j.0 (length p.jobs) (
    let there : has (job_numbers js) j.0 ≡ true = any_at_place (λ y. nat_eq y j.0) (job_numbers js) i j.0 (map_place (λ (x : JobId). x.0) js i j e) (is_itself j.0) in
    let l : j.0 < length d.workflow.jobs = draft.jobs_below t j.0 (ap (λ (ns : List ℕ). has ns j.0) (in_part d t js at) ∙ there) in omega (arith, l, count_jobs_is d p draft refined))))
kind_in_range d p draft refined t k (a_transfer g s i l m moved is there place) =
    ap (is_kind_in_range p) (sym is)
    ∙ and_both (nat_lt g (length p.files)) (is_source_below (length p.sites) (source (home d g) (chosen d g s)) && nat_lt s (length p.sites)) (low_true g (length p.files) (omega (arith, l, count_files_is d p refined)))
    (and_both (is_source_below (length p.sites) (source (home d g) (chosen d g s))) (nat_lt s (length p.sites)) (source_below d draft (length p.sites) g (chosen d g s) (count_sites_is d p refined)) (low_true s (length p.sites) (omega (arith, m, count_sites_is d p refined))))
kind_in_range d p draft refined t k (a_delivery g i l asked is there placed) =
    ap (is_kind_in_range p) (sym is)
    ∙ and_both (nat_lt g (length p.files)) (is_source_below (length p.sites) (source (home d g) (first_pfn (pfns_of d g))) && true) (low_true g (length p.files) (omega (arith, l, count_files_is d p refined)))
    (and_both (is_source_below (length p.sites) (source (home d g) (first_pfn (pfns_of d g)))) true (source_below d draft (length p.sites) g (first_pfn (pfns_of d g)) (count_sites_is d p refined)) refl)

pair_in_range : (d : Draft) (p : Plan) → IsDraft d → IsRefined d p → (i : ℕ) (q : Pair) → slice_get p.pairs i ≡ Some q → is_pair_in_range p q ≡ true
unfolding pairs_of
pair_in_range d p draft refined i q e =
    let found = place_map pair_of (grid (count_execution_sites d) (count_files d) (stands d)) i q (ap (λ (qs : List Pair). slice_get qs i) (sym refined.pairs) ∙ e) in
    let is = grid_place (count_execution_sites d) (count_files d) (stands d) i found.0 found.1 in
    let one : found.0.0 ≡ q.site.0 = ap (λ (x : Pair). x.site.0) found.2 in
    let two : found.0.1 ≡ q.file.0 = ap (λ (x : Pair). x.file.0) found.2 in
    and_both (nat_lt q.site.0 (length p.sites)) (nat_lt q.file.0 (length p.files)) (low_true q.site.0 (length p.sites) (omega (arith, is.0, one, count_sites_is d p refined))) (low_true q.file.0 (length p.files) (omega (arith, is.1, two, count_files_is d p refined)))

files_below : (n : ℕ) (fs : List FileId) → ((f : ℕ) → has (file_numbers fs) f ≡ true → f < n) → are_files_below n fs ≡ true
files_below n fs h = all_listed (λ (f : FileId). nat_lt f.0 n) fs (λ i f e. low_true f.0 n (h f.0 (any_at_place (λ y. nat_eq y f.0) (file_numbers fs) i f.0 (map_place (λ (x : FileId). x.0) fs i f e) (is_itself f.0))))

job_in_range : (d : Draft) (p : Plan) → IsDraft d → IsRefined d p → (i : ℕ) (j : PlanJob) → slice_get p.jobs i ≡ Some j → is_job_in_range p j ≡ true
unfolding inputs outputs
job_in_range d p draft refined i j e =
    and_both (is_site_below (length p.sites) j.site) (are_files_below (length p.files) j.inputs && are_files_below (length p.files) j.outputs)
    (on j.site (job_site d.request.tools d.workflow.jobs d.sites i j (ap (λ (js : List PlanJob). slice_get js i) (sym refined.jobs) ∙ e)))
    (and_both (are_files_below (length p.files) j.inputs) (are_files_below (length p.files) j.outputs)
    (files_below (length p.files) j.inputs (λ f h. let l : f < count_files d = used_below d draft (record { 0 = i } ∷ []) f (or_left (has (read_by d.workflow i) f) false (ap (λ (xs : List ℕ). has xs f) (sym (inputs_are d p draft refined i) ∙ ap inputs_in e) ∙ h)) in omega (arith, l, count_files_is d p refined)))
    (files_below (length p.files) j.outputs (λ f h. let l : f < count_files d = made_below d draft (record { 0 = i } ∷ []) f (or_left (has (written_by d.workflow i) f) false (ap (λ (xs : List ℕ). has xs f) (sym (outputs_are d p draft refined i) ∙ ap outputs_in e) ∙ h)) in omega (arith, l, count_files_is d p refined))))
  where
    on : (o : Option SiteId) → slice_get d.sites i ≡ Some o → is_site_below (length p.sites) o ≡ true
    on None g = refl
    on (Some s) g = low_true s.0 (length p.sites) (let l : s.0 < length d.request.execute = draft.sites_below i s g in omega (arith, l, count_sites_is d p refined))

in_range : (d : Draft) (limit : ℕ) (p : Plan) → IsDraft d → limit < 2 ^ 32 → first_fault d limit ≡ None → IsRefined d p → IsInRange p
unfolding kind
in_range d limit p draft few none refined = record {
  few_sites = (let l : length d.request.execute ≤ 64 = draft.few_sites in omega (arith, l, count_sites_is d p refined));
  few_files = (let l : length d.workflow.files ≤ 50000 = draft.formed.few_files in omega (arith, l, count_files_is d p refined));
  few_jobs = (let l : length d.workflow.jobs ≤ 10000 = draft.formed.few_jobs in omega (arith, l, count_jobs_is d p draft refined));
  few_pairs = (let l : length p.pairs ≤ 3200000 = few_pairs d p.pairs draft refined.pairs in omega arith);
  few_tasks = (let l : length (kinds_of d) ≤ limit = count_small d limit none in let e : length (map (λ (t : Task). t.kind) p.tasks) ≡ length p.tasks = length-map p.tasks (λ (t : Task). t.kind) in omega (arith, l, few, e, ap length refined.kinds));
  pairs = all_listed (is_pair_in_range p) p.pairs (pair_in_range d p draft refined);
  jobs = all_listed (is_job_in_range p) p.jobs (job_in_range d p draft refined);
  kinds = all_listed (λ (t : Task). is_kind_in_range p t.kind) p.tasks (λ i t e. kind_in_range d p draft refined i t.kind (sorted d p refined i t.kind (ap kind_in e)));
}

-- ---- names

abbrev Apart : List (List ℕ) → List (List ℕ) → Type 0
Apart known [] = Unit {0}
Apart known (n ∷ ns) = (list_any (bytes_eq n) known ≡ false) × Apart known ns

same_bytes : (a b : List ℕ) → bytes_eq a b ≡ bytes_eq b a
same_bytes a b = nat_list_eq_equiv.symm a b

new_apart : (known ns : List (List ℕ)) → are_new bytes_eq known ns ≡ true → Apart known ns × IsDistinct bytes_eq ns
unfolding IsDistinct
new_apart known [] h = (tt, tt)
new_apart known (n ∷ ns) h =
    let parts = both (not (list_any (bytes_eq n) known)) (are_new bytes_eq (known ++ n ∷ []) ns) h in
    let rest = new_apart (known ++ n ∷ []) ns parts.1 in
    ((not_true (list_any (bytes_eq n) known) parts.0, fewer ns rest.0), (others ns rest.0, rest.1))
  where
    split : (m : List ℕ) → list_any (bytes_eq m) (known ++ n ∷ []) ≡ false → (list_any (bytes_eq m) known ≡ false) × (bytes_eq m n ≡ false)
    split m e = by (list_any (bytes_eq m) known) refl (bytes_eq m n) refl (sym (list_any-append (bytes_eq m) known (n ∷ [])) ∙ e)
      where
        by : (a : Bool) → list_any (bytes_eq m) known ≡ a → (b : Bool) → bytes_eq m n ≡ b → (a || (b || false)) ≡ false → (list_any (bytes_eq m) known ≡ false) × (bytes_eq m n ≡ false)
        by true p b q r = absurd cc
        by false p true q r = absurd cc
        by false p false q r = (p, q)

    fewer : (ms : List (List ℕ)) → Apart (known ++ n ∷ []) ms → Apart known ms
    fewer [] k = tt
    fewer (m ∷ ms) k = ((split m k.0).0, fewer ms k.1)

    others : (ms : List (List ℕ)) → Apart (known ++ n ∷ []) ms → AllByRecursion (λ y. bytes_eq n y ≡ false) ms
    others [] k = tt
    others (m ∷ ms) k = (same_bytes n m ∙ (split m k.0).1, others ms k.1)

site_names_are : (es : List Execution) → map (λ (s : PlanSite). s.name) (map planned_site es) ≡ map (λ (e : Execution). e.site) es
site_names_are [] = refl
site_names_are (e ∷ es) = ap (λ (ns : List (List ℕ)). e.site ∷ ns) (site_names_are es)

file_names_of : (d : Draft) (ns : List ℕ) → map (λ (f : PlanFile). f.lfn) (map (planned_file d) ns) ≡ map (draft_file_name d) ns
file_names_of d [] = refl
file_names_of d (n ∷ ns) = ap (λ (xs : List (List ℕ)). draft_file_name d n ∷ xs) (file_names_of d ns)

take_all : {A : Type 0} (xs : List A) (n : ℕ) → n ≡ length xs → take n xs ≡ xs
take_all [] zero e = refl
take_all [] (suc n) e = refl
take_all (x ∷ xs) zero e = absurd (omega arith)
take_all (x ∷ xs) (suc n) e = ap (λ zs. x ∷ zs) (take_all xs n (omega arith))

names_taken : (xs : List (List ℕ)) (n : ℕ) → n ≤ length xs → map (λ (f : ℕ). slice_index_or xs f []) (below n (λ f. true)) ≡ take n xs
unfolding below
names_taken xs zero l = refl
names_taken xs (suc n) l =
    let plus : n + 1 ≡ suc n = omega arith in
    map-append (λ (f : ℕ). slice_index_or xs f []) (below n (λ f. true)) (n ∷ [])
    ∙ ap (λ (ns : List (List ℕ)). ns ++ slice_index_or xs n [] ∷ []) (names_taken xs n (omega arith))
    ∙ sym (take_more xs n [] (omega arith)) ∙ ap (λ (m : ℕ). take m xs) plus

file_names_are : (d : Draft) (p : Plan) → IsRefined d p → map (λ (f : PlanFile). f.lfn) p.files ≡ d.workflow.files
file_names_are d p refined =
    ap (map (λ (f : PlanFile). f.lfn)) refined.files ∙ file_names_of d (below (count_files d) (λ f. true))
    ∙ names_taken d.workflow.files (count_files d) (omega arith) ∙ take_all d.workflow.files (count_files d) refl

-- ---- pairs

rise_from : (q : Pair) (qs : List Pair) → ((i j : ℕ) (x y : Pair) → i < j → slice_get (q ∷ qs) i ≡ Some x → slice_get (q ∷ qs) j ≡ Some y → is_before x y ≡ true) → rise_after q qs ≡ true
rise_from q [] h = refl
rise_from q (r ∷ qs) h = and_both (is_before q r) (rise_after r qs) (h 0 1 q r (omega arith) refl refl) (rise_from r qs (λ i j x y l e f. h (suc i) (suc j) x y (omega arith) e f))

rising_of : (qs : List Pair) → ((i j : ℕ) (x y : Pair) → i < j → slice_get qs i ≡ Some x → slice_get qs j ≡ Some y → is_before x y ≡ true) → are_rising qs ≡ true
rising_of [] h = refl
rising_of (q ∷ qs) h = rise_from q qs h

pairs_rise : (d : Draft) (p : Plan) → IsRefined d p → are_rising p.pairs ≡ true
unfolding pairs_of
pairs_rise d p refined = rising_of p.pairs (λ i j x y l e f.
    let one = place_map pair_of (grid (count_execution_sites d) (count_files d) (stands d)) i x (ap (λ (qs : List Pair). slice_get qs i) (sym refined.pairs) ∙ e) in
    let two = place_map pair_of (grid (count_execution_sites d) (count_files d) (stands d)) j y (ap (λ (qs : List Pair). slice_get qs j) (sym refined.pairs) ∙ f) in
    ap (λ (z : Pair). is_before z y) (sym one.2) ∙ ap (is_before (pair_of one.0)) (sym two.2)
    ∙ by one.0 two.0 (grid_rises (count_execution_sites d) (count_files d) (stands d) i j one.0 two.0 l one.1 two.1))
  where
    by : (x y : ℕ × ℕ) → IsBefore x.0 x.1 y.0 y.1 → is_before (pair_of x) (pair_of y) ≡ true
    by x y (inl l) = or_left (nat_lt x.0 y.0) (nat_eq x.0 y.0 && nat_lt x.1 y.1) (low_true x.0 y.0 l)
    by x y (inr k) = or_right (nat_lt x.0 y.0) (nat_eq x.0 y.0 && nat_lt x.1 y.1) (and_both (nat_eq x.0 y.0) (nat_lt x.1 y.1) (ap (λ (n : ℕ). nat_eq n y.0) k.0 ∙ is_itself y.0) (low_true x.1 y.1 k.1))

pub has_tables : (d : Draft) (limit : ℕ) (p : Plan) → IsDraft d → limit < 2 ^ 32 → first_fault d limit ≡ None → IsRefined d p → HasTables p
has_tables d limit p draft few none refined = record {
  in_range = in_range d limit p draft few none refined;
  site_names = subst (IsDistinct bytes_eq) (sym (ap (map (λ (s : PlanSite). s.name)) refined.sites ∙ site_names_are d.request.execute)) draft.site_names;
  file_names = subst (IsDistinct bytes_eq) (sym (file_names_are d p refined)) (new_apart [] d.workflow.files draft.formed.names).1;
  pairs_rise = pairs_rise d p refined;
}
