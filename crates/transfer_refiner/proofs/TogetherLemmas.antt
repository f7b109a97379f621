-- The parts of a plan put together.
use Rattle.std.proofs.Common.{◌≡◌, ℕ, zero, suc, ◌+◌, ◌*◌, ◌<◌, ◌≤◌, ◌||◌, Bool, true, false, cond, not, List, [], ◌∷◌, ◌++◌, length, map, refl, sym, ap, ◌∙◌, subst, nat_eq, arith, length-append, All}
use Rattle.std.specs.Prelude.{Err, None, Option, Some, is_some, nat_lt, option_map, slice_get}
use Rattle.std.specs.List.{list_any}
use Rattle.std.proofs.Math.Nat.{mul-le-mul_left}
use Rattle.std.proofs.lemmas.List.{length-map}
use Rattle.std.proofs.lemmas.List.Elements.{All-get_or}
use Rattle.std.proofs.lemmas.List.Folds.{list_any-append}
use Rattle.std.proofs.lemmas.Option.{get_or_from_slice_get}
use Rattle.workflow_core.specs.Requested.{is_requested}
use Rattle.plan_core.specs.declared.plan.Plan.{Plan}
use Rattle.plan_core.specs.declared.plan.Pair.{Pair}
use Rattle.plan_core.specs.declared.plan.PlanJob.{PlanJob}
use Rattle.plan_core.specs.declared.plan.Task.{Task}
use Rattle.plan_core.specs.declared.plan.TaskKind.{TaskKind}
use Rattle.plan_core.specs.Kinds.{on_pair, kind_reads, kind_writes, sweeps, task_waits, waits_for}
use Rattle.plan_core.specs.Numbers.{has, below, least, or_else}
use Rattle.plan_core.specs.Words.{count_pairs, count_tasks, is_clean_kind, kind_in, reads_in, writes_in, kind, reads, writes, parents}
use Rattle.plan_core.specs.code.Words.{pair_at}
use Rattle.transfer_refiner.specs.declared.fault.RefineFault.{RefineFault}
use Rattle.transfer_refiner.specs.declared.fault.RefineFault.TheVariants.{NoReplica, NoSize, TooMany, Memory}
use Rattle.transfer_refiner.specs.Draft.{Draft, moves, stands, draft_file_name, declared_of}
use Rattle.transfer_refiner.specs.Tasks.{comes_after, count_files, count_execution_sites, delivery, plan_files, grid, jobs_of, kinds_of, pair_of, pairs_of, planned_site, run, transfer}
use Rattle.transfer_refiner.specs.code.Tasks.{count_all, count_cleans, first_fault, is_made, lacks_replica, lacks_size, too_many, used}
use Rattle.transfer_refiner.specs.code.Conditions.{IsDraft}
use Rattle.transfer_refiner.specs.Refined.{IsRefined}
use Rattle.transfer_refiner.specs.code.Refined.{Refines}
use Rattle.transfer_refiner.specs.code.Places.{AreOnce}
use Rattle.transfer_refiner.specs.code.Steps.{IsListed, AreParented, AreTasks}
use Rattle.plan_core.proofs.TestLemmas.{same_number, and_both, both, by_bool}
use Rattle.plan_core.proofs.NumbersLemmas.{below_has, none_least, same_below}
use Rattle.transfer_refiner.proofs.SliceLemmas.{any_at_place, map_place, place_map, slice_get_there}
use Rattle.transfer_refiner.proofs.OnceLemmas.{grid_once}
use Rattle.transfer_refiner.proofs.EdgesLemmas.{after_within}
use Rattle.transfer_refiner.proofs.WritersLemmas.{task_below}

kinds_same : (new old : List Task) → length new ≡ length old → ((u : ℕ) → u < length old → kind_in (slice_get new u) ≡ kind_in (slice_get old u)) → map (λ (t : Task). t.kind) new ≡ map (λ (t : Task). t.kind) old
kinds_same [] [] long same = refl
kinds_same [] (y ∷ old) long same = absurd (omega arith)
kinds_same (x ∷ new) [] long same = absurd (omega arith)
kinds_same (x ∷ new) (y ∷ old) long same =
    let first : Some x.kind ≡ Some y.kind = same 0 (omega arith) in
    let one : x.kind ≡ y.kind = cc in
    ap (λ (k : TaskKind). k ∷ map (λ (t : Task). t.kind) new) one ∙ ap (λ (ks : List TaskKind). y.kind ∷ ks) (kinds_same new old (omega arith) (λ u l. same (suc u) (omega arith)))

waits_same : (a b c e : Option Task) → kind_in a ≡ kind_in b → reads_in a ≡ reads_in b → writes_in c ≡ writes_in e → reads_in c ≡ reads_in e → task_waits a c ≡ task_waits b e
waits_same a b c e k r w s =
    ap (λ (qs : List ℕ). list_any (λ q. has (writes_in c) q) qs || (sweeps (kind_in a) (writes_in c) || sweeps (kind_in a) (reads_in c))) r
    ∙ ap (λ (o : Option TaskKind). list_any (λ q. has (writes_in c) q) (reads_in b) || (sweeps o (writes_in c) || sweeps o (reads_in c))) k
    ∙ ap (λ (qs : List ℕ). list_any (λ q. has qs q) (reads_in b) || (sweeps (kind_in b) qs || sweeps (kind_in b) (reads_in c))) w
    ∙ ap (λ (qs : List ℕ). list_any (λ q. has (writes_in e) q) (reads_in b) || (sweeps (kind_in b) (writes_in e) || sweeps (kind_in b) qs)) s

listed_at : (jobs : List PlanJob) (pairs : List Pair) (ts : List Task) → All (IsListed jobs pairs) ts → (u : ℕ) (x : Task) → slice_get ts u ≡ Some x → u < length ts → IsListed jobs pairs x
listed_at jobs pairs ts all u x e l = subst (IsListed jobs pairs) (get_or_from_slice_get ts u x x e) (All-get_or (IsListed jobs pairs) ts u x l all)

bare_reads : (jobs : List PlanJob) (pairs : List Pair) (ts : List Task) → All (IsListed jobs pairs) ts → (u : ℕ) → u < length ts → reads_in (slice_get ts u) ≡ below (length pairs) (λ q. on_pair (kind_reads jobs (kind_in (slice_get ts u))) (slice_get pairs q))
bare_reads jobs pairs ts all u l = by (slice_get ts u) refl
  where
    by : (o : Option Task) → slice_get ts u ≡ o → reads_in o ≡ below (length pairs) (λ q. on_pair (kind_reads jobs (kind_in o)) (slice_get pairs q))
    by None e = absurd (slice_get_there ts u l e)
    by (Some x) e = (listed_at jobs pairs ts all u x e l).reads

bare_writes : (jobs : List PlanJob) (pairs : List Pair) (ts : List Task) → All (IsListed jobs pairs) ts → (u : ℕ) → u < length ts → writes_in (slice_get ts u) ≡ below (length pairs) (λ q. on_pair (kind_writes jobs (kind_in (slice_get ts u))) (slice_get pairs q))
bare_writes jobs pairs ts all u l = by (slice_get ts u) refl
  where
    by : (o : Option Task) → slice_get ts u ≡ o → writes_in o ≡ below (length pairs) (λ q. on_pair (kind_writes jobs (kind_in o)) (slice_get pairs q))
    by None e = absurd (slice_get_there ts u l e)
    by (Some x) e = (listed_at jobs pairs ts all u x e l).writes

pub tasks_are : (d : Draft) (jobs : List PlanJob) (pairs : List Pair) (bare ts : List Task) (later : ℕ → ℕ → Bool) → map (λ (t : Task). t.kind) bare ≡ kinds_of d → All (IsListed jobs pairs) bare → pairs ≡ pairs_of d
    → AreParented later bare ts (length bare) → ((t u : ℕ) → later t u ≡ comes_after d t u) → AreTasks d jobs ts
tasks_are d jobs pairs bare ts later kinds_are listed pairs_are are stated = record {
  kinds = kinds_same ts bare are.long are.kind ∙ kinds_are;
  reads = λ t l. let low = below_old t l in are.reads t low ∙ bare_reads jobs pairs bare listed t low
      ∙ ap (λ (o : Option TaskKind). below (length pairs) (λ q. on_pair (kind_reads jobs o) (slice_get pairs q))) (sym (are.kind t low))
      ∙ ap (λ (qs : List Pair). below (length qs) (λ q. on_pair (kind_reads jobs (kind_in (slice_get ts t))) (slice_get qs q))) pairs_are;
  writes = λ t l. let low = below_old t l in are.writes t low ∙ bare_writes jobs pairs bare listed t low
      ∙ ap (λ (o : Option TaskKind). below (length pairs) (λ q. on_pair (kind_writes jobs o) (slice_get pairs q))) (sym (are.kind t low))
      ∙ ap (λ (qs : List Pair). below (length qs) (λ q. on_pair (kind_writes jobs (kind_in (slice_get ts t))) (slice_get qs q))) pairs_are;
  parents = λ t l. let low = below_old t l in are.parents t low
      ∙ same_below (length bare) (λ u. task_waits (slice_get bare t) (slice_get bare u) || later t u) (λ u. task_waits (slice_get ts t) (slice_get ts u) || comes_after d t u)
      (λ u m. ap (λ (b : Bool). b || later t u) (sym (waits_same (slice_get ts t) (slice_get bare t) (slice_get ts u) (slice_get bare u) (are.kind t low) (are.reads t low) (are.writes u m) (are.reads u m))) ∙ ap (λ (b : Bool). task_waits (slice_get ts t) (slice_get ts u) || b) (stated t u))
      ∙ ap (λ (n : ℕ). below n (λ u. task_waits (slice_get ts t) (slice_get ts u) || comes_after d t u)) (sym are.long);
}
  where
    below_old : (t : ℕ) → t < length ts → t < length bare
    below_old t l = let e : length ts ≡ length bare = are.long in omega arith

pub refined_of : (d : Draft) (p : Plan) → p.workflow ≡ d.workflow.name → p.policy ≡ d.request.policy → p.sites ≡ map planned_site d.request.execute → p.files ≡ plan_files d → p.jobs ≡ jobs_of d.request.tools d.workflow.jobs d.sites → p.pairs ≡ pairs_of d → AreTasks d p.jobs p.tasks → IsRefined d p
unfolding kind reads writes parents waits_for
refined_of d p workflow policy sites files jobs pairs are = record {
  workflow = workflow;
  policy = policy;
  sites = sites;
  files = files;
  jobs = jobs;
  pairs = pairs;
  kinds = are.kinds;
  reads = λ t l. are.reads t l ∙ ap (λ (qs : List Pair). below (length qs) (λ q. on_pair (kind_reads p.jobs (kind_in (slice_get p.tasks t))) (slice_get qs q))) (sym pairs);
  writes = λ t l. are.writes t l ∙ ap (λ (qs : List Pair). below (length qs) (λ q. on_pair (kind_writes p.jobs (kind_in (slice_get p.tasks t))) (slice_get qs q))) (sym pairs);
  parents = are.parents;
}

-- ---- how long the lists are

pub below_short : (n : ℕ) (test : ℕ → Bool) → length (below n test) ≤ n
unfolding below
below_short zero test = omega arith
below_short (suc n) test = by (test n) (below_short n test)
  where
    by : (b : Bool) → length (below n test) ≤ n → length (below n test ++ cond b (n ∷ []) []) ≤ suc n
    by true l = omega (arith, l, length-append (below n test) (n ∷ []))
    by false l = omega (arith, l, length-append (below n test) [])

grid_short : (m n : ℕ) (test : ℕ → ℕ → Bool) → length (grid m n test) ≤ m * n
unfolding grid
grid_short zero n test = omega arith
grid_short (suc m) n test =
    let rest : length (grid m n test) ≤ m * n = grid_short m n test in
    let same : length {A = ℕ × ℕ} (map (λ (b : ℕ). (m, b)) (below n (test m))) ≡ length (below n (test m)) = length-map (below n (test m)) (λ (b : ℕ). (m, b)) in
    let short : length (below n (test m)) ≤ n = below_short n (test m) in
    let all : length {A = ℕ × ℕ} (grid m n test ++ map (λ (b : ℕ). (m, b)) (below n (test m))) ≡ length (grid m n test) + length {A = ℕ × ℕ} (map (λ (b : ℕ). (m, b)) (below n (test m))) = length-append (grid m n test) (map (λ (b : ℕ). (m, b)) (below n (test m))) in
    let product : suc m * n ≡ m * n + n = grind arith in
    omega (arith, rest, same, short, all, product)

pub few_pairs : (d : Draft) (pairs : List Pair) → IsDraft d → pairs ≡ pairs_of d → length pairs ≤ 3200000
unfolding pairs_of
few_pairs d pairs draft is =
    let same : length (map pair_of (grid (count_execution_sites d) (count_files d) (stands d))) ≡ length (grid (count_execution_sites d) (count_files d) (stands d)) = length-map (grid (count_execution_sites d) (count_files d) (stands d)) pair_of in
    let short : length (grid (count_execution_sites d) (count_files d) (stands d)) ≤ count_execution_sites d * count_files d = grid_short (count_execution_sites d) (count_files d) (stands d) in
    let product : count_execution_sites d * count_files d ≤ count_execution_sites d * 50000 = mul-le-mul_left (count_execution_sites d) draft.formed.few_files in
    let sites : length d.request.execute ≤ 64 = draft.few_sites in
    omega (arith, ap length is, same, short, product, sites)

pub few_moved : (d : Draft) (moved : List (ℕ × ℕ)) → IsDraft d → moved ≡ grid (count_files d) (count_execution_sites d) (moves d) → length moved ≤ 3200000
few_moved d moved draft is =
    let short : length (grid (count_files d) (count_execution_sites d) (moves d)) ≤ count_files d * count_execution_sites d = grid_short (count_files d) (count_execution_sites d) (moves d) in
    let product : count_files d * count_execution_sites d ≤ count_files d * 64 = mul-le-mul_left (count_files d) draft.few_sites in
    let files : length d.workflow.files ≤ 50000 = draft.formed.few_files in
    omega (arith, ap length is, short, product, files)

pub few_requested : (d : Draft) (fs : List ℕ) → IsDraft d → fs ≡ below (count_files d) (is_requested d.workflow) → length fs ≤ 50000
few_requested d fs draft is =
    let short : length (below (count_files d) (is_requested d.workflow)) ≤ count_files d = below_short (count_files d) (is_requested d.workflow) in
    let files : length d.workflow.files ≤ 50000 = draft.formed.few_files in
    omega (arith, ap length is, short, files)

pub kinds_long : (d : Draft) (moved : List (ℕ × ℕ)) (fs : List ℕ) → moved ≡ grid (count_files d) (count_execution_sites d) (moves d) → fs ≡ below (count_files d) (is_requested d.workflow) → length d.parts + (length moved + length fs) ≡ length (kinds_of d)
unfolding kinds_of
kinds_long d moved fs m r =
    let one = map (run d) d.parts in
    let two = map (transfer d) (grid (count_files d) (count_execution_sites d) (moves d)) in
    let three = map (delivery d) (below (count_files d) (is_requested d.workflow)) in
    omega (arith, length-append one (two ++ three), length-append two three, length-map d.parts (run d), length-map (grid (count_files d) (count_execution_sites d) (moves d)) (transfer d), length-map (below (count_files d) (is_requested d.workflow)) (delivery d), ap length m, ap length r)

-- ---- what the steps ask

pub pairs_once : (d : Draft) (pairs : List Pair) → pairs ≡ pairs_of d → AreOnce pairs
unfolding pairs_of
pairs_once d pairs is q r s f h k = grid_once (count_execution_sites d) (count_files d) (stands d) q r (s, f) (at q h) (at r k)
  where
    by : (q : ℕ) (o : Option Pair) → slice_get pairs q ≡ o → pair_at o s f ≡ true → slice_get (grid (count_execution_sites d) (count_files d) (stands d)) q ≡ Some (s, f)
    by q None e g = absurd cc
    by q (Some x) e g =
        let found = place_map pair_of (grid (count_execution_sites d) (count_files d) (stands d)) q x (ap (λ (qs : List Pair). slice_get qs q) (sym is) ∙ e) in
        let parts = both (nat_eq x.site.0 s) (nat_eq x.file.0 f) g in
        let one : found.0.0 ≡ s = ap (λ (y : Pair). y.site.0) found.2 ∙ same_number x.site.0 s parts.0 in
        let two : found.0.1 ≡ f = ap (λ (y : Pair). y.file.0) found.2 ∙ same_number x.file.0 f parts.1 in
        found.1 ∙ ap (λ (n : ℕ). Some (n, found.0.1)) one ∙ ap (λ (n : ℕ). Some (s, n)) two

    at : (q : ℕ) → pair_at (slice_get pairs q) s f ≡ true → slice_get (grid (count_execution_sites d) (count_files d) (stands d)) q ≡ Some (s, f)
    at q g = by q (slice_get pairs q) refl g

pub written_low : (jobs : List PlanJob) (pairs : List Pair) (bare : List Task) → All (IsListed jobs pairs) bare → (t q : ℕ) → has (writes_in (slice_get bare t)) q ≡ true → q < length pairs
written_low jobs pairs bare listed t q h =
    (below_has (length pairs) (λ q. on_pair (kind_writes jobs (kind_in (slice_get bare t))) (slice_get pairs q)) q (ap (λ (ns : List ℕ). has ns q) (sym (bare_writes jobs pairs bare listed t (task_below bare t q h))) ∙ h)).0

map_none : {A : Type 0} (g : A → TaskKind) → ((x : A) → is_clean_kind (Some (g x)) ≡ false) → (xs : List A) → list_any (λ (k : TaskKind). is_clean_kind (Some k)) (map g xs) ≡ false
map_none g none [] = refl
map_none g none (x ∷ xs) = ap (λ (b : Bool). b || list_any (λ (k : TaskKind). is_clean_kind (Some k)) (map g xs)) (none x) ∙ map_none g none xs

none_cleans : (d : Draft) → list_any (λ (k : TaskKind). is_clean_kind (Some k)) (kinds_of d) ≡ false
unfolding kinds_of
none_cleans d =
    let test : TaskKind → Bool = λ k. is_clean_kind (Some k) in
    let one = map (run d) d.parts in
    let two = map (transfer d) (grid (count_files d) (count_execution_sites d) (moves d)) in
    let three = map (delivery d) (below (count_files d) (is_requested d.workflow)) in
    list_any-append test one (two ++ three)
    ∙ ap (λ (b : Bool). b || list_any test (two ++ three)) (map_none (run d) (λ x. refl) d.parts)
    ∙ list_any-append test two three
    ∙ ap (λ (b : Bool). b || list_any test three) (map_none (transfer d) (λ x. refl) (grid (count_files d) (count_execution_sites d) (moves d)))
    ∙ map_none (delivery d) (λ x. refl) (below (count_files d) (is_requested d.workflow))

pub no_cleans : (d : Draft) (bare : List Task) → map (λ (t : Task). t.kind) bare ≡ kinds_of d → (u : ℕ) → is_clean_kind (kind_in (slice_get bare u)) ≡ false
no_cleans d bare is u = by (slice_get bare u) refl
  where
    by : (o : Option Task) → slice_get bare u ≡ o → is_clean_kind (kind_in o) ≡ false
    by None e = refl
    by (Some x) e = by_bool (is_clean_kind (Some x.kind))
        (λ h. absurd (
        let there : list_any (λ (k : TaskKind). is_clean_kind (Some k)) (map (λ (t : Task). t.kind) bare) ≡ true = any_at_place (λ (k : TaskKind). is_clean_kind (Some k)) (map (λ (t : Task). t.kind) bare) u x.kind (map_place (λ (t : Task). t.kind) bare u x e) h in
        let z : false ≡ true = sym (none_cleans d) ∙ ap (list_any (λ (k : TaskKind). is_clean_kind (Some k))) (sym is) ∙ there in cc))
        (λ h. h)

pub stated_low : (d : Draft) (bare : List Task) (e : ℕ → ℕ → Bool) → map (λ (t : Task). t.kind) bare ≡ kinds_of d → ((u t : ℕ) → e u t ≡ comes_after d t u) → (u v : ℕ) → e u v ≡ true → u < length bare
stated_low d bare e is are u v h =
    let low : u < length d.parts = (after_within d u v (sym (are u v) ∙ h)).0 in
    let long : length d.parts + (length (grid (count_files d) (count_execution_sites d) (moves d)) + length (below (count_files d) (is_requested d.workflow))) ≡ length (kinds_of d) = kinds_long d (grid (count_files d) (count_execution_sites d) (moves d)) (below (count_files d) (is_requested d.workflow)) refl refl in
    let same : length (map (λ (t : Task). t.kind) bare) ≡ length bare = length-map bare (λ (t : Task). t.kind) in
    omega (arith, low, long, same, ap length is)

pub bare_long : (d : Draft) (bare : List Task) (kinds : List TaskKind) → map (λ (t : Task). t.kind) bare ≡ kinds → length bare ≡ length kinds
bare_long d bare kinds is = sym (length-map bare (λ (t : Task). t.kind)) ∙ ap length is

-- ---- the fault, or none

pub fault_is : (d : Draft) (limit : ℕ) (e : RefineFault) → first_fault d limit ≡ Some e → Refines d limit (Err e)
fault_is d limit (NoReplica n) h = h
fault_is d limit (NoSize n) h = h
fault_is d limit (TooMany c l) h = h
fault_is d limit Memory h = tt

or_second : {A : Type 0} (x y : Option A) → or_else x y ≡ None → y ≡ None
or_second None y e = e
or_second (Some x) y e = absurd cc

not_many : (count limit : ℕ) → too_many count limit ≡ None → count ≤ limit
not_many count limit e = by (nat_lt limit count) refl e
  where
    by : (b : Bool) → nat_lt limit count ≡ b → cond b (Some (TooMany count limit)) None ≡ None → count ≤ limit
    by true h k = absurd cc
    by false h k = grind arith

all_small : (d : Draft) (limit : ℕ) → first_fault d limit ≡ None → count_all d ≤ limit
unfolding first_fault
all_small d limit e =
    not_many (count_all d) limit
    (or_second (option_map (λ f. NoSize (draft_file_name d f)) (least (count_files d) (lacks_size d))) (too_many (count_all d) limit)
    (or_second (option_map (λ f. NoReplica (draft_file_name d f)) (least (count_files d) (lacks_replica d))) (or_else (option_map (λ f. NoSize (draft_file_name d f)) (least (count_files d) (lacks_size d))) (too_many (count_all d) limit)) e))

pub count_small : (d : Draft) (limit : ℕ) → first_fault d limit ≡ None → length (kinds_of d) ≤ limit
unfolding count_all
count_small d limit e =
    let small : length (kinds_of d) + count_cleans d.request.cleanup (length (pairs_of d)) ≤ limit = all_small d limit e in
    omega (arith, small)

pub count_is : (d : Draft) (a b : ℕ) (pairs : List Pair) → a ≡ length (kinds_of d) → b ≡ count_cleans d.request.cleanup (length pairs) → pairs ≡ pairs_of d → a + b ≡ count_all d
unfolding count_all
count_is d a b pairs tasks cleans is =
    let same : b ≡ count_cleans d.request.cleanup (length (pairs_of d)) = cleans ∙ ap (λ (ps : List Pair). count_cleans d.request.cleanup (length ps)) is in
    omega (arith, tasks, same)

pub cleans_counted : (d : Draft) (limit : ℕ) (p : Plan) → first_fault d limit ≡ None → IsRefined d p → count_tasks p + count_cleans d.request.cleanup (count_pairs p) ≤ limit
unfolding count_all
cleans_counted d limit p e is =
    let small : length (kinds_of d) + count_cleans d.request.cleanup (length (pairs_of d)) ≤ limit = all_small d limit e in
    let tasks : count_tasks p ≡ length (kinds_of d) = bare_long d p.tasks (kinds_of d) is.kinds in
    let cleans : count_cleans d.request.cleanup (count_pairs p) ≡ count_cleans d.request.cleanup (length (pairs_of d)) = ap (λ (ps : List Pair). count_cleans d.request.cleanup (length ps)) is.pairs in
    omega (arith, small, tasks, cleans)

pub range_of : (jobs : List PlanJob) (places pairs : List Pair) (bare ts : List Task) → All (IsListed jobs places) bare → ts ≡ bare → places ≡ pairs → (t q : ℕ) → has (writes_in (slice_get ts t)) q ≡ true → q < length pairs
range_of jobs places pairs bare ts listed is same t q h = subst (λ (qs : List Pair). q < length qs) same (written_low jobs places ts (subst (All (IsListed jobs places)) (sym is) listed) t q h)

pub fault_none : (o : Option ℕ) (g : ℕ → RefineFault) → option_map g o ≡ None → o ≡ None
fault_none None g e = refl
fault_none (Some x) g e = absurd cc

pub or_first : {A : Type 0} (x y : Option A) → or_else x y ≡ None → x ≡ None
or_first None y e = refl
or_first (Some x) y e = absurd cc

-- what a task moves or writes has a declared size where there is no fault
pub no_size : (d : Draft) (limit : ℕ) → first_fault d limit ≡ None → (f : ℕ) → f < count_files d → (used d f || (is_made d f || is_requested d.workflow f)) ≡ true → is_some (declared_of d f) ≡ true
unfolding first_fault lacks_size
no_size d limit e f l h =
    by (is_some (declared_of d f)) refl (none_least (count_files d) (lacks_size d)
    (fault_none (least (count_files d) (lacks_size d)) (λ f. NoSize (draft_file_name d f))
    (or_first (option_map (λ f. NoSize (draft_file_name d f)) (least (count_files d) (lacks_size d))) (too_many (count_all d) limit)
    (or_second (option_map (λ f. NoReplica (draft_file_name d f)) (least (count_files d) (lacks_replica d))) (or_else (option_map (λ f. NoSize (draft_file_name d f)) (least (count_files d) (lacks_size d))) (too_many (count_all d) limit)) e))) f l)
  where
    by : (b : Bool) → is_some (declared_of d f) ≡ b → lacks_size d f ≡ false → is_some (declared_of d f) ≡ true
    by true g none = g
    by false g none = absurd (let x : true ≡ false = sym (and_both (used d f || (is_made d f || is_requested d.workflow f)) (not (is_some (declared_of d f))) h (ap not g)) ∙ none in cc)
