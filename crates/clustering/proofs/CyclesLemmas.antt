-- Parts lead as the parents of their jobs say.
use Rattle.std.proofs.Common.{◌≡◌, ℕ, zero, suc, ◌+◌, ◌<◌, ◌≤◌, ◌||◌, ◌&&◌, Bool, true, false, not, cond, nat_eq, eqb-true, List, [], ◌∷◌, ◌++◌, append_assoc, length, drop, get_or, refl, sym, ap, subst, ◌∙◌, arith}
use Rattle.std.specs.Prelude.{Option, Some, None}
use Rattle.std.specs.List.{All, list_any}
use Rattle.std.specs.Cmp.{IsEquivalence, and_equiv, nat_eq_equiv, on_equiv}
use Rattle.std.specs.Cmp.Lexicographic.{nat_list_eq_equiv, options_equiv}
use Rattle.std.proofs.lemmas.Bool.{and_parts}
use Rattle.std.proofs.lemmas.List.{drop_more, length-map}
use Rattle.std.proofs.lemmas.List.Folds.{list_any-append}
use Rattle.values.specs.declared.numbers.JobId.{JobId}
use Rattle.workflow_core.specs.declared.workflow.Workflow.{Workflow}
use Rattle.digraph.specs.Adjacency.{has_node as has, neighbours}
use Rattle.dependency_graph.specs.Edges.{edge, is_among}
use Rattle.dependency_graph.specs.Graph.{IsGraphOf, Links, jobs_at, numbers}
use Rattle.dependency_graph.specs.Ranking.{IsRanked}
use Rattle.dependency_graph.proofs.TestLemmas.{by_bool, itself, or_case, or_left, or_right}
use Rattle.dependency_graph.proofs.ValueLemmas.{any_in}
use Rattle.clustering.specs.Basis.{ClusteringInput}
use Rattle.dependency_graph.specs.Graph.{numbers as job_numbers}
use Rattle.clustering.specs.code.Runs.{IsGroup}
use Rattle.clustering.specs.Runs.{is_job}
use Rattle.clustering.specs.code.Condition.{leads, part_of}
use Rattle.clustering.specs.Gathering.{gathered}
use Rattle.clustering.specs.code.Labels.{holder, holder_from, holder_in}
use Rattle.clustering.specs.Labels.{label_at, labels_of, number_without, same_label}
use Rattle.clustering.specs.code.Cycles.{other_parts, part_sources, sources_from, unless_part}
use Rattle.clustering.proofs.ConditionLemmas.{Kept, are_groups, before, parents_are, ranked_keeps, ranked_rises, some_of}
use Rattle.clustering.proofs.GatheredLemmas.{gathered_apart, gathered_few, gathered_parts, one_part}
use Rattle.clustering.proofs.SinglesLemmas.{ranked_few}

-- ---- which part holds a job

among_is : (j : JobId) (p : List JobId) → is_among j.0 (job_numbers p) ≡ list_any (is_job j) p
among_is j [] = refl
among_is j (i ∷ p) = ap (λ (b : Bool). nat_eq i.0 j.0 || b) (among_is j p)

no_more : (m : ℕ) → m ≡ m + 0
no_more m = omega arith

next : (n c : ℕ) → suc n + c ≡ n + suc c
next n c = omega arith

-- the part of that number has the job
data Held (n : ℕ) (ps : List (List JobId)) (j : JobId) (h : ℕ) : Type 0 where
  In : (c : ℕ) → h ≡ n + c → list_any (is_job j) (part_of ps c) ≡ true → Held n ps j h

held_from : (n : ℕ) (ps : List (List JobId)) (j : JobId) (h : ℕ) → holder_from n ps j ≡ Some h → Held n ps j h
held_from n [] j h e = absurd cc
held_from n (p ∷ ps) j h e = by (list_any (is_job j) p) refl e (held_from (suc n) ps j h)
  where
    later : Held (suc n) ps j h → Held n (p ∷ ps) j h
    later (In c is has) = In (suc c) (is ∙ next n c) has

    by : (b : Bool) → list_any (is_job j) p ≡ b → cond b (Some n) (holder_from (suc n) ps j) ≡ Some h → (holder_from (suc n) ps j ≡ Some h → Held (suc n) ps j h) → Held n (p ∷ ps) j h
    by true f g rest = In 0 (let same : n ≡ h = cc in sym same ∙ no_more n) f
    by false f g rest = later (rest g)

holds_from : (n : ℕ) (ps : List (List JobId)) (c : ℕ) (j : JobId) → list_any (is_job j) (part_of ps c) ≡ true → ((a : ℕ) → list_any (is_job j) (part_of ps a) ≡ true → a ≡ c) → holder_from n ps j ≡ Some (n + c)
holds_from n [] c j h one = absurd cc
holds_from n (p ∷ ps) zero j h one = ap (λ (b : Bool). cond b (Some n) (holder_from (suc n) ps j)) h ∙ ap Some (no_more n)
holds_from n (p ∷ ps) (suc c) j h one = by_bool (list_any (is_job j) p)
    (λ e. absurd (let z = one 0 e in omega (arith, z)))
    (λ e. ap (λ (b : Bool). cond b (Some n) (holder_from (suc n) ps j)) e
    ∙ (holds_from (suc n) ps c j h (λ a k. let s = one (suc a) k in omega (arith, s)) ∙ ap Some (next n c)))

abbrev is_number : ℕ → Option ℕ → Bool
is_number a None = false
is_number a (Some h) = nat_eq h a

number_is : (a : ℕ) (o : Option ℕ) → is_number a o ≡ true → o ≡ Some a
number_is a None h = absurd cc
number_is a (Some b) h = ap Some (eqb-true b a h)

-- ---- jobs that pass a test

some_job : (test : JobId → Bool) (js : List JobId) → list_any test js ≡ true → (n : ℕ) × (is_among n (job_numbers js) ≡ true) × (test (record { 0 = n }) ≡ true)
some_job test [] h = absurd cc
some_job test (j ∷ js) h = or_case (test j) (list_any test js) h
    (λ k. (j.0, or_left (nat_eq j.0 j.0) (is_among j.0 (job_numbers js)) (itself j.0), k))
    (λ k. let s = some_job test js k in (s.0, or_right (nat_eq j.0 s.0) (is_among s.0 (job_numbers js)) s.1, s.2))

any_job : (test : JobId → Bool) (js : List JobId) (n : ℕ) → is_among n (job_numbers js) ≡ true → test (record { 0 = n }) ≡ true → list_any test js ≡ true
any_job test [] n h k = absurd cc
any_job test (j ∷ js) n h k = by_bool (nat_eq j.0 n)
    (λ e. or_left (test j) (list_any test js) (subst (λ (m : ℕ). test (record { 0 = m }) ≡ true) (sym (eqb-true j.0 n e)) k))
    (λ e. or_right (test j) (list_any test js) (any_job test js n (ap (λ (b : Bool). b || is_among n (job_numbers js)) (sym e) ∙ h) k))

both_ways : (a b : Bool) → (a ≡ true → b ≡ true) → (b ≡ true → a ≡ true) → a ≡ b
both_ways true b f g = sym (f refl)
both_ways false true f g = g refl
both_ways false false f g = refl

-- ---- parts lead

-- part a holds a parent of one of these jobs
abbrev holds_parent : (JobId → Option ℕ) → Links → ℕ → List JobId → Bool
holds_parent at g a js = list_any (λ (j : JobId). list_any (λ (i : JobId). is_number a (at i)) (jobs_at g.parents j.0)) js

leads_is : (w : Workflow) (g : Links) (ps : List (List JobId)) (at : JobId → Option ℕ) → IsGraphOf w g → ((a b n : ℕ) → is_among n (job_numbers (part_of ps a)) ≡ true → is_among n (job_numbers (part_of ps b)) ≡ true → a ≡ b)
    → ((j : JobId) → at j ≡ holder ps j) → (a b : ℕ) → (not (nat_eq a b) && holds_parent at g a (part_of ps b)) ≡ leads w ps a b
leads_is w g ps at graph one table a b = ap (λ (x : Bool). not (nat_eq a b) && x) (both_ways parents edges there back)
  where
    parents : Bool
    parents = holds_parent at g a (part_of ps b)

    edges : Bool
    edges = list_any (λ i. list_any (λ j. edge w i j) (job_numbers (part_of ps b))) (job_numbers (part_of ps a))

    in_part : (i : ℕ) → Held 0 ps (record { 0 = i }) a → is_among i (job_numbers (part_of ps a)) ≡ true
    in_part i (In c is has) = among_is (record { 0 = i }) (part_of ps a) ∙ (ap (λ (d : ℕ). list_any (is_job (record { 0 = i })) (part_of ps d)) (is ∙ same c) ∙ has)
      where
        same : (c : ℕ) → 0 + c ≡ c
        same c = omega arith

    parent : (i j : ℕ) → is_among i (numbers (jobs_at g.parents j)) ≡ edge w i j
    parent i j = ap (is_among i) (parents_are g.parents j) ∙ graph.parents.same j i

    there : parents ≡ true → edges ≡ true
    there h =
        let to = some_job (λ (j : JobId). list_any (λ (i : JobId). is_number a (at i)) (jobs_at g.parents j.0)) (part_of ps b) h in
        let from = some_job (λ (i : JobId). is_number a (at i)) (jobs_at g.parents to.0) to.2 in
        let here = in_part from.0 (held_from 0 ps (record { 0 = from.0 }) a (sym (table (record { 0 = from.0 })) ∙ number_is a (at (record { 0 = from.0 })) from.2)) in
        let leads : edge w from.0 to.0 ≡ true = sym (parent from.0 to.0) ∙ from.1 in
        any_in (λ i. list_any (λ j. edge w i j) (job_numbers (part_of ps b))) from.0 (job_numbers (part_of ps a)) here (any_in (λ j. edge w from.0 j) to.0 (job_numbers (part_of ps b)) to.1 leads)

    back : edges ≡ true → parents ≡ true
    back h =
        let from = some_of (λ i. list_any (λ j. edge w i j) (job_numbers (part_of ps b))) (job_numbers (part_of ps a)) h in
        let to = some_of (λ j. edge w from.0 j) (job_numbers (part_of ps b)) from.2 in
        let has : list_any (is_job (record { 0 = from.0 })) (part_of ps a) ≡ true = sym (among_is (record { 0 = from.0 }) (part_of ps a)) ∙ from.1 in
        let held : holder ps (record { 0 = from.0 }) ≡ Some (0 + a) = holds_from 0 ps a (record { 0 = from.0 }) has (λ d k. one d a from.0 (among_is (record { 0 = from.0 }) (part_of ps d) ∙ k) from.1) in
        let number : is_number a (at (record { 0 = from.0 })) ≡ true = ap (is_number a) (table (record { 0 = from.0 }) ∙ held) ∙ (ap (λ (n : ℕ). nat_eq n a) (same a) ∙ itself a) in
        any_job (λ (j : JobId). list_any (λ (i : JobId). is_number a (at i)) (jobs_at g.parents j.0)) (part_of ps b) to.0 to.1
        (any_job (λ (i : JobId). is_number a (at i)) (jobs_at g.parents to.0) from.0 (parent from.0 to.0 ∙ to.2) number)
      where
        same : (c : ℕ) → 0 + c ≡ c
        same c = omega arith

leads_within : (w : Workflow) (ps : List (List JobId)) (a b : ℕ) → leads w ps a b ≡ true → a < length ps
leads_within w ps a b h =
    let some = some_of (λ i. list_any (λ j. edge w i j) (job_numbers (part_of ps b))) (job_numbers (part_of ps a)) (and_parts (not (nat_eq a b)) (list_any (λ i. list_any (λ j. edge w i j) (job_numbers (part_of ps b))) (job_numbers (part_of ps a))) h).1 in
    within ps a some.0 some.1
  where
    within : (qs : List (List JobId)) (c n : ℕ) → is_among n (job_numbers (part_of qs c)) ≡ true → c < length qs
    within [] c n k = absurd cc
    within (q ∷ qs) zero n k = omega arith
    within (q ∷ qs) (suc c) n k = let less = within qs c n k in omega (arith, less)

-- ---- the lists of sources

both_none : (n : Bool) → (n && false) ≡ false
both_none true = refl
both_none false = refl

shared : (n x y : Bool) → ((n && x) || (n && y)) ≡ (n && (x || y))
shared true x y = refl
shared false x y = refl

differ : (a b c : ℕ) → a ≡ b → nat_eq b c ≡ false → nat_eq a c ≡ false
differ a b c e f = ap (λ (n : ℕ). nat_eq n c) e ∙ f

has_unless : (a part h : ℕ) (ns : List ℕ) (any : Bool) → has a ns ≡ (not (nat_eq a part) && any) → has a (unless_part part (Some h) ns) ≡ (not (nat_eq a part) && (nat_eq h a || any))
has_unless a part h ns any rest = by (nat_eq h part) refl
  where
    none : nat_eq h part ≡ true → (not (nat_eq a part) && any) ≡ (not (nat_eq a part) && (nat_eq h a || any))
    none e = by_bool (nat_eq a part)
        (λ k. ap (λ (b : Bool). not b && any) k ∙ sym (ap (λ (b : Bool). not b && (nat_eq h a || any)) k))
        (λ k. ap (λ (b : Bool). not (nat_eq a part) && (b || any)) (sym (differ h part a (eqb-true h part e) (nat_eq_equiv.symm part a ∙ k))))

    by : (b : Bool) → nat_eq h part ≡ b → has a (cond b ns (h ∷ ns)) ≡ (not (nat_eq a part) && (nat_eq h a || any))
    by true e = rest ∙ none e
    by false e = by_bool (nat_eq h a)
        (λ m. ap (λ (b : Bool). b || has a ns) m
        ∙ sym (ap (λ (b : Bool). not (nat_eq a part) && (b || any)) m ∙ ap (λ (b : Bool). not b && true) (differ a h part (sym (eqb-true h a m)) e)))
        (λ m. ap (λ (b : Bool). b || has a ns) m ∙ (rest ∙ sym (ap (λ (b : Bool). not (nat_eq a part) && (b || any)) m)))

has_other : (table : List (Option ℕ)) (part a : ℕ) (js : List JobId) → has a (other_parts table part js) ≡ (not (nat_eq a part) && list_any (λ (i : JobId). is_number a (holder_in table i)) js)
has_other table part a [] = sym (both_none (not (nat_eq a part)))
has_other table part a (j ∷ js) = by (holder_in table j) (has_other table part a js)
  where
    by : (o : Option ℕ) → has a (other_parts table part js) ≡ (not (nat_eq a part) && list_any (λ (i : JobId). is_number a (holder_in table i)) js)
        → has a (unless_part part o (other_parts table part js)) ≡ (not (nat_eq a part) && (is_number a o || list_any (λ (i : JobId). is_number a (holder_in table i)) js))
    by None rest = rest
    by (Some h) rest = has_unless a part h (other_parts table part js) (list_any (λ (i : JobId). is_number a (holder_in table i)) js) rest

has_sources : (table : List (Option ℕ)) (g : Links) (part a : ℕ) (js : List JobId) → has a (part_sources table g.parents part js) ≡ (not (nat_eq a part) && holds_parent (holder_in table) g a js)
has_sources table g part a [] = sym (both_none (not (nat_eq a part)))
has_sources table g part a (j ∷ js) =
    list_any-append (λ n. nat_eq n a) (other_parts table part (jobs_at g.parents j.0)) (part_sources table g.parents part js)
    ∙ (ap (λ (b : Bool). b || has a (part_sources table g.parents part js)) (has_other table part a (jobs_at g.parents j.0))
    ∙ (ap (λ (b : Bool). (not (nat_eq a part) && list_any (λ (i : JobId). is_number a (holder_in table i)) (jobs_at g.parents j.0)) || b) (has_sources table g part a js)
    ∙ shared (not (nat_eq a part)) (list_any (λ (i : JobId). is_number a (holder_in table i)) (jobs_at g.parents j.0)) (holds_parent (holder_in table) g a js)))

sources_at : (table : List (Option ℕ)) (parents : List (List JobId)) (n : ℕ) (ps : List (List JobId)) (b : ℕ) → neighbours (sources_from table parents n ps) b ≡ part_sources table parents (n + b) (part_of ps b)
sources_at table parents n [] b = refl
sources_at table parents n (p ∷ ps) zero = ap (λ (k : ℕ). part_sources table parents k p) (no_more n)
sources_at table parents n (p ∷ ps) (suc b) = sources_at table parents (suc n) ps b ∙ ap (λ (k : ℕ). part_sources table parents k (part_of ps b)) (next n b)

pub sources_long : (table : List (Option ℕ)) (parents : List (List JobId)) (n : ℕ) (ps : List (List JobId)) → length (sources_from table parents n ps) ≡ length ps
sources_long table parents n [] = refl
sources_long table parents n (p ∷ ps) = ap suc (sources_long table parents (suc n) ps)

pub sources_step : (table : List (Option ℕ)) (parents : List (List JobId)) (n i : ℕ) (ps : List (List JobId)) (p : List JobId) (done all : List (List ℕ)) (one : List ℕ) → i < length ps → p ≡ get_or ps i []
    → one ≡ part_sources table parents n p → done ++ sources_from table parents n (drop i ps) ≡ all → (done ++ one ∷ []) ++ sources_from table parents (n + 1) (drop (i + 1) ps) ≡ all
sources_step table parents n i ps p done all one l is made h = append_assoc done (one ∷ []) (sources_from table parents (n + 1) (drop (i + 1) ps)) ∙ (ap (λ (xs : List (List ℕ)). done ++ xs) step ∙ h)
  where
    more : n + 1 ≡ suc n
    more = omega arith

    step : one ∷ sources_from table parents (n + 1) (drop (i + 1) ps) ≡ sources_from table parents n (drop i ps)
    step =
        ap (λ (x : List ℕ). x ∷ sources_from table parents (n + 1) (drop (i + 1) ps)) (made ∙ ap (part_sources table parents n) is)
        ∙ (ap (λ (k : ℕ). part_sources table parents n (get_or ps i []) ∷ sources_from table parents k (drop (i + 1) ps)) more
        ∙ sym (ap (sources_from table parents n) (drop_more ps i [] l)))

-- ---- the graph of the parts of each label

pub label_equal : (b : ClusteringInput) → IsEquivalence (same_label b)
label_equal b =
    and_equiv
    (on_equiv (λ (j : JobId). label_at b j.0) (options_equiv nat_list_eq_equiv))
    (on_equiv (λ (j : JobId). number_without (label_at b j.0) j.0) (options_equiv nat_eq_equiv))

one_label : (b : ClusteringInput) (kept : List Bool) (jobs : List JobId) → IsRanked kept b.levels (job_numbers jobs)
    → (x y n : ℕ) → is_among n (job_numbers (part_of (labels_of b jobs) x)) ≡ true → is_among n (job_numbers (part_of (labels_of b jobs) y)) ≡ true → x ≡ y
unfolding labels_of
one_label b kept jobs ranked =
    one_part (same_label b) (before b.levels) (Kept kept) (label_equal b) (gathered (same_label b) jobs)
    (gathered_parts (same_label b) (before b.levels) (Kept kept) jobs (ranked_keeps kept b.levels jobs ranked) (ranked_rises kept b.levels jobs ranked))
    (gathered_apart (same_label b) jobs)

pub label_edges : (w : Workflow) (g : Links) (b : ClusteringInput) (kept : List Bool) (jobs : List JobId) (table : List (Option ℕ)) → IsGraphOf w g → IsRanked kept b.levels (job_numbers jobs)
    → ((j : JobId) → holder_in table j ≡ holder (labels_of b jobs) j) → (x y : ℕ) → has x (neighbours (sources_from table g.parents 0 (labels_of b jobs)) y) ≡ leads w (labels_of b jobs) x y
label_edges w g b kept jobs table graph ranked same x y =
    ap (has x) (sources_at table g.parents 0 (labels_of b jobs) y)
    ∙ (ap (λ (k : ℕ). has x (part_sources table g.parents k (part_of (labels_of b jobs) y))) (none y)
    ∙ (has_sources table g y x (part_of (labels_of b jobs) y)
    ∙ leads_is w g (labels_of b jobs) (holder_in table) graph (one_label b kept jobs ranked) same x y))
  where
    none : (m : ℕ) → 0 + m ≡ m
    none m = omega arith

all_has : (P : ℕ → Type 0) (ns : List ℕ) → ((a : ℕ) → has a ns ≡ true → P a) → All P ns
all_has P [] f k d l = absurd (omega (arith, l))
all_has P (n ∷ ns) f zero d l = f n (or_left (nat_eq n n) (has n ns) (itself n))
all_has P (n ∷ ns) f (suc k) d l = all_has P ns (λ a h. f a (or_right (nat_eq n a) (has a ns) h)) k d (omega (arith, l))

pub sources_in : (w : Workflow) (ps : List (List JobId)) (ns : List ℕ) (b : ℕ) → ((a : ℕ) → has a ns ≡ leads w ps a b) → All (λ n. n < length ps) ns
sources_in w ps ns b same = all_has (λ n. n < length ps) ns (λ a h. leads_within w ps a b (sym (same a) ∙ h))

-- For each part the parts from which an edge leads to it.
pub record AreSources (w : Workflow) (ps : List (List JobId)) (lists : List (List ℕ)) : Type 0 where
  pub long : length lists ≡ length ps
  pub edges : (a b : ℕ) → has a (neighbours lists b) ≡ leads w ps a b
  pub in_range : (k : ℕ) → All (λ n. n < length ps) (neighbours lists k)

pub label_sources : (w : Workflow) (g : Links) (b : ClusteringInput) (kept : List Bool) (jobs : List JobId) (table : List (Option ℕ)) (lists : List (List ℕ)) → IsGraphOf w g → IsRanked kept b.levels (job_numbers jobs)
    → ((j : JobId) → holder_in table j ≡ holder (labels_of b jobs) j) → lists ≡ sources_from table g.parents 0 (labels_of b jobs) → AreSources w (labels_of b jobs) lists
label_sources w g b kept jobs table lists graph ranked same are = record {
  long = ap length are ∙ sources_long table g.parents 0 (labels_of b jobs);
  edges = leads_;
  in_range = λ k. sources_in w (labels_of b jobs) (neighbours lists k) k (λ a. leads_ a k);
}
  where
    leads_ : (x y : ℕ) → has x (neighbours lists y) ≡ leads w (labels_of b jobs) x y
    leads_ x y = ap (λ (ls : List (List ℕ)). has x (neighbours ls y)) are ∙ label_edges w g b kept jobs table graph ranked same x y

pub label_groups : (b : ClusteringInput) (kept : List Bool) (jobs : List JobId) → length kept ≤ 10000 → IsRanked kept b.levels (job_numbers jobs) → (k : ℕ) → IsGroup (length kept) (part_of (labels_of b jobs) k)
unfolding labels_of
label_groups b kept jobs small ranked = are_groups kept b.levels (same_label b) jobs small ranked

pub label_few : (b : ClusteringInput) (kept : List Bool) (jobs : List JobId) → length kept ≤ 10000 → IsRanked kept b.levels (job_numbers jobs) → length (labels_of b jobs) ≤ 10000
unfolding labels_of
label_few b kept jobs small ranked = let one = gathered_few (same_label b) jobs in let two = ranked_few kept b.levels jobs ranked in omega (arith, one, two, small)

pub label_jobs : (w : Workflow) (g : Links) (b : ClusteringInput) (kept : List Bool) (jobs : List JobId) → IsGraphOf w g → length kept ≤ 10000 → length kept ≡ length w.jobs → IsRanked kept b.levels (job_numbers jobs)
    → (k : ℕ) → All (λ (j : JobId). j.0 < length g.parents) (part_of (labels_of b jobs) k)
label_jobs w g b kept jobs graph small long ranked k =
    subst (λ (n : ℕ). All (λ (j : JobId). j.0 < n) (part_of (labels_of b jobs) k))
    (long ∙ (sym graph.parents.long ∙ length-map g.parents numbers))
    (label_groups b kept jobs small ranked k).below
