-- Parts of rising kept jobs are as tasks need them.
use Rattle.std.proofs.Common.{◌≡◌, ℕ, zero, suc, ◌<◌, ◌≤◌, ◌||◌, ◌&&◌, Bool, true, false, not, cond, nat_eq, eqb, eqb-true, ltb, List, [], ◌∷◌, ◌++◌, length, map, get_or, refl, sym, ap, subst, ◌∙◌, arith}
use Rattle.std.specs.Prelude.{slice_index_or}
use Rattle.std.specs.List.{list_any}
use Rattle.std.specs.Cmp.{IsEquivalence}
use Rattle.std.proofs.lemmas.Bool.{and_parts}
use Rattle.std.proofs.lemmas.List.{append-nil, length-map}
use Rattle.std.proofs.lemmas.List.Elements.{All-from_get_or}
use Rattle.std.proofs.lemmas.Map.Steps.{length-le_from_distinct_below}
use Rattle.std.proofs.lemmas.List.Folds.{list_any-append}
use Rattle.values.specs.declared.numbers.JobId.{JobId}
use Rattle.workflow_core.specs.declared.workflow.Workflow.{Workflow}
use Rattle.digraph.specs.Cycle.{Returns}
use Rattle.digraph.specs.Distances.{Walk}
use Rattle.dependency_graph.specs.Edges.{edge, is_among, is_paired, passes_file, read_by, written_by}
use Rattle.dependency_graph.specs.Graph.{IsGraphOf, Links, jobs_at, numbers}
use Rattle.dependency_graph.specs.Levels.{AreLevels, above, above_all, is_kept, level}
use Rattle.dependency_graph.specs.Ranking.{HasNoRepeats, IsRanked, comes_before}
use Rattle.dependency_graph.proofs.ValueLemmas.{any_in}
use Rattle.dependency_graph.proofs.TestLemmas.{by_bool, has_at, itself, or_case, or_left, or_right}
use Rattle.dependency_graph.specs.Graph.{numbers as job_numbers}
use Rattle.clustering.specs.Gathering.{gathered, is_of_part}
use Rattle.clustering.specs.code.Runs.{IsGroup}
use Rattle.clustering.specs.code.Condition.{AreParts, BeginsKept, IsOnce, IsOrdered, leads, part_of, writes}
use Rattle.clustering.proofs.SinglesLemmas.{any_turned, distinct, ranked_few}
use Rattle.clustering.proofs.GatheredLemmas.{Every, IsPart, Rises, every_as, every_at, gathered_apart, gathered_few, gathered_parts, goes_with, one_part, part_at, rises_after, rises_once}

-- ---- levels rise along edges

kept_below : (kept : List Bool) (a : ℕ) → is_kept kept a ≡ true → a < length kept
kept_below [] a h = absurd cc
kept_below (k ∷ kept) zero h = omega arith
kept_below (k ∷ kept) (suc a) h = omega (arith, kept_below kept a h)

above_one : (kept : List Bool) (levels : List ℕ) (js : List JobId) (a : ℕ) → is_among a (numbers js) ≡ true → above kept levels a ≤ above_all kept levels js
above_one kept levels [] a h = absurd cc
above_one kept levels (j ∷ js) a h = by_bool (nat_eq j.0 a)
    (λ e. let same : above kept levels j.0 ≡ above kept levels a = ap (above kept levels) (eqb-true j.0 a e) in grind arith)
    (λ e. let rest = above_one kept levels js a (ap (λ (b : Bool). b || is_among a (numbers js)) (sym e) ∙ h) in grind arith)

pub parents_are : (ls : List (List JobId)) (b : ℕ) → numbers (jobs_at ls b) ≡ slice_index_or (map numbers ls) b []
parents_are [] b = refl
parents_are (l ∷ ls) zero = refl
parents_are (l ∷ ls) (suc b) = parents_are ls b

pub rises_along : (w : Workflow) (g : Links) (kept : List Bool) (levels : List ℕ) → IsGraphOf w g → AreLevels g kept levels → (a b : ℕ) → is_kept kept a ≡ true → is_kept kept b ≡ true → edge w a b ≡ true → level levels a < level levels b
rises_along w g kept levels graph leveled a b h k e =
    let parent : is_among a (numbers (jobs_at g.parents b)) ≡ true = ap (is_among a) (parents_are g.parents b) ∙ (graph.parents.same b a ∙ e) in
    let most = above_one kept levels (jobs_at g.parents b) a parent in
    let one : above kept levels a ≡ suc (level levels a) = ap (λ (x : Bool). cond x (suc (level levels a)) 0) h in
    let is : level levels b ≡ above_all kept levels (jobs_at g.parents b) = leveled.each b (kept_below kept b k) ∙ ap (λ (x : Bool). cond x (above_all kept levels (jobs_at g.parents b)) 0) k in
    omega (arith, most, one, is)

-- ---- ranked jobs rise

abbrev pub before : List ℕ → JobId → JobId → Bool
before levels i j = comes_before levels i.0 j.0

abbrev pub Kept : List Bool → JobId → Type 0
Kept kept j = is_kept kept j.0 ≡ true

every_index : (P : JobId → Type 0) (js : List JobId) → ((k : ℕ) → k < length (job_numbers js) → P (record { 0 = get_or (job_numbers js) k 0 })) → Every P js
every_index P [] h = tt
every_index P (j ∷ js) h = (h 0 (omega arith), every_index P js (λ k l. h (suc k) (omega (arith, l))))

index_rises : (levels : List ℕ) (js : List JobId) → ((i j : ℕ) → i < j → j < length (job_numbers js) → comes_before levels (get_or (job_numbers js) i 0) (get_or (job_numbers js) j 0) ≡ true) → Rises (before levels) js
index_rises levels [] h = tt
index_rises levels (x ∷ js) h = (
  every_index (λ (i : JobId). before levels x i ≡ true) js (λ k l. h 0 (suc k) (omega arith) (omega (arith, l))),
  index_rises levels js (λ i j l m. h (suc i) (suc j) (omega (arith, l)) (omega (arith, m))),
)

pub ranked_rises : (kept : List Bool) (levels : List ℕ) (js : List JobId) → IsRanked kept levels (job_numbers js) → Rises (before levels) js
ranked_rises kept levels js ranked = index_rises levels js ranked.rising

pub ranked_keeps : (kept : List Bool) (levels : List ℕ) (js : List JobId) → IsRanked kept levels (job_numbers js) → Every (Kept kept) js
ranked_keeps kept levels js ranked = every_index (Kept kept) js (λ k l. sym (ranked.kept_ones (get_or (job_numbers js) k 0)) ∙ has_at (job_numbers js) k l)

no_earlier : (n m : ℕ) → ltb n m ≡ true → n < m
no_earlier n m h = grind arith

before_level : (levels : List ℕ) (i j : JobId) → before levels i j ≡ true → level levels i.0 ≤ level levels j.0
before_level levels i j h = or_case (ltb (level levels i.0) (level levels j.0)) (eqb (level levels i.0) (level levels j.0) && ltb i.0 j.0) h
    (λ k. let l = no_earlier (level levels i.0) (level levels j.0) k in omega (arith, l))
    (λ k. let l = eqb-true (level levels i.0) (level levels j.0) (and_parts (eqb (level levels i.0) (level levels j.0)) (ltb i.0 j.0) k).0 in omega (arith, l))

pub not_itself : (levels : List ℕ) (j : JobId) → before levels j j ≡ false
not_itself levels j = by_bool (before levels j j)
    (λ e. absurd (or_case (ltb (level levels j.0) (level levels j.0)) (eqb (level levels j.0) (level levels j.0) && ltb j.0 j.0) e
    (λ k. let l = no_earlier (level levels j.0) (level levels j.0) k in omega (arith, l))
    (λ k. let l = no_earlier j.0 j.0 (and_parts (eqb (level levels j.0) (level levels j.0)) (ltb j.0 j.0) k).1 in omega (arith, l))))
    (λ e. e)

-- ---- makers come first

-- levels rise along the edges between kept jobs
abbrev pub Climbs : Workflow → List Bool → List ℕ → Type 0
Climbs w kept levels = (a b : ℕ) → is_kept kept a ≡ true → is_kept kept b ≡ true → edge w a b ≡ true → level levels a < level levels b

makes_edge : (w : Workflow) (a b f : ℕ) → is_among f (read_by w b) ≡ true → is_among f (written_by w a) ≡ true → edge w a b ≡ true
unfolding edge
makes_edge w a b f h k = or_left (passes_file w a b) (is_paired w a b) (any_in (λ g. is_among g (written_by w a)) f (read_by w b) h k)

not_written : (w : Workflow) (kept : List Bool) (levels : List ℕ) (f : ℕ) (j : JobId) (later : List JobId) → Climbs w kept levels → Kept kept j → is_among f (read_by w j.0) ≡ true
    → Every (λ (i : JobId). level levels j.0 ≤ level levels i.0) later → Every (Kept kept) later → list_any (writes w f) later ≡ false
not_written w kept levels f j [] up k r h l = refl
not_written w kept levels f j (i ∷ later) up k r h l = by_bool (writes w f i)
    (λ e. absurd (let less = up i.0 j.0 l.0 k (makes_edge w i.0 j.0 f r e) in let most = h.0 in omega (arith, less, most)))
    (λ e. ap (λ (b : Bool). b || list_any (writes w f) later) e ∙ not_written w kept levels f j later up k r h.1 l.1)

every_right : {X : Type 0} (P : X → Type 0) (xs ys : List X) → Every P (xs ++ ys) → Every P ys
every_right P [] ys h = h
every_right P (x ∷ xs) ys h = every_right P xs ys h.1

rising_ordered : (w : Workflow) (kept : List Bool) (levels : List ℕ) (p : List JobId) → Climbs w kept levels → Rises (before levels) p → Every (Kept kept) p → IsOrdered w p
rising_ordered w kept levels p up rises keeps done later j e f r made =
    let split : Rises (before levels) (done ++ j ∷ later) = subst (Rises (before levels)) e rises in
    let rest : Every (Kept kept) (j ∷ later) = every_right (Kept kept) done (j ∷ later) (subst (Every (Kept kept)) e keeps) in
    let after : Every (λ (i : JobId). level levels j.0 ≤ level levels i.0) later = every_as (λ (i : JobId). before levels j i ≡ true) (λ (i : JobId). level levels j.0 ≤ level levels i.0) later (before_level levels j) (rises_after (before levels) done j later split) in
    let here : Every (λ (i : JobId). level levels j.0 ≤ level levels i.0) (j ∷ later) = (omega arith, after) in
    let none : list_any (writes w f) (j ∷ later) ≡ false = not_written w kept levels f j (j ∷ later) up rest.0 r here rest in
    let all : (list_any (writes w f) done || list_any (writes w f) (j ∷ later)) ≡ true = sym (list_any-append (writes w f) done (j ∷ later)) ∙ (ap (list_any (writes w f)) (sym e) ∙ made) in
    or_case (list_any (writes w f) done) (list_any (writes w f) (j ∷ later)) all (λ k. k) (λ k. absurd (let x : true ≡ false = sym k ∙ none in cc))

once_split : (js : List JobId) → HasNoRepeats (job_numbers js) → IsOnce js
once_split [] once [] later j e = absurd cc
once_split [] once (x ∷ done) later j e = absurd cc
once_split (x ∷ js) once [] later j e =
    let head : x ≡ j = cc in
    let tail : js ≡ later = cc in
    ap (λ (y : JobId). is_among y.0 (job_numbers later)) (sym head) ∙ (ap (λ (ys : List JobId). is_among x.0 (job_numbers ys)) (sym tail) ∙ once.0)
once_split (x ∷ js) once (y ∷ done) later j e = once_split js once.1 done later j (let tail : js ≡ done ++ j ∷ later = cc in tail)

-- ---- parts of one level

abbrev first_level : List ℕ → List JobId → ℕ
first_level levels [] = 0
first_level levels (j ∷ js) = level levels j.0

pub some_of : (test : ℕ → Bool) (ns : List ℕ) → list_any test ns ≡ true → (n : ℕ) × (is_among n ns ≡ true) × (test n ≡ true)
some_of test [] h = absurd cc
some_of test (x ∷ ns) h = or_case (test x) (list_any test ns) h
    (λ k. (x, or_left (nat_eq x x) (is_among x ns) (itself x), k))
    (λ k. let s = some_of test ns k in (s.0, or_right (nat_eq x s.0) (is_among s.0 ns) s.1, s.2))

first_is : (levels : List ℕ) (goes : JobId → JobId → Bool) → ((i j : JobId) → goes i j ≡ true → level levels i.0 ≡ level levels j.0) → (p : List JobId) (n : ℕ) → is_of_part goes (record { 0 = n }) p ≡ true → level levels n ≡ first_level levels p
first_is levels goes same [] n h = absurd cc
first_is levels goes same (f ∷ js) n h = same (record { 0 = n }) f h

kept_in : (goes lt : JobId → JobId → Bool) (kept : List Bool) (p : List JobId) (n : ℕ) → IsPart goes lt (Kept kept) [] p → is_among n (job_numbers p) ≡ true → is_kept kept n ≡ true
kept_in goes lt kept [] n h k = absurd h
kept_in goes lt kept (f ∷ js) n h k = every_at (Kept kept) (f ∷ js) n h.2 k

-- What is known of parts, beside that no parts lead round.
pub record AreLevelParts (w : Workflow) (kept : List Bool) (levels : List ℕ) (goes : JobId → JobId → Bool) (ps : List (List JobId)) : Type 0 where
  pub up : Climbs w kept levels
  pub equal : IsEquivalence goes
  pub each : Every (IsPart goes (before levels) (Kept kept) []) ps

leads_up : (w : Workflow) (kept : List Bool) (levels : List ℕ) (goes : JobId → JobId → Bool) (ps : List (List JobId)) → ((i j : JobId) → goes i j ≡ true → level levels i.0 ≡ level levels j.0)
    → AreLevelParts w kept levels goes ps → (a b : ℕ) → leads w ps a b ≡ true → first_level levels (part_of ps a) < first_level levels (part_of ps b)
leads_up w kept levels goes ps same h a b l =
    let apart = and_parts (not (nat_eq a b)) (list_any (λ i. list_any (λ j. edge w i j) (job_numbers (part_of ps b))) (job_numbers (part_of ps a))) l in
    let from = some_of (λ i. list_any (λ j. edge w i j) (job_numbers (part_of ps b))) (job_numbers (part_of ps a)) apart.1 in
    let to = some_of (λ j. edge w from.0 j) (job_numbers (part_of ps b)) from.2 in
    let pa = part_at (IsPart goes (before levels) (Kept kept) []) ps a from.0 h.each from.1 in
    let pb = part_at (IsPart goes (before levels) (Kept kept) []) ps b to.0 h.each to.1 in
    let less = h.up from.0 to.0 (kept_in goes (before levels) kept (part_of ps a) from.0 pa from.1) (kept_in goes (before levels) kept (part_of ps b) to.0 pb to.1) to.2 in
    let one = first_is levels goes same (part_of ps a) from.0 (goes_with goes (before levels) (Kept kept) h.equal (part_of ps a) from.0 pa from.1) in
    let two = first_is levels goes same (part_of ps b) to.0 (goes_with goes (before levels) (Kept kept) h.equal (part_of ps b) to.0 pb to.1) in
    omega (arith, less, one, two)

walks_up : (w : Workflow) (kept : List Bool) (levels : List ℕ) (goes : JobId → JobId → Bool) (ps : List (List JobId)) → ((i j : JobId) → goes i j ≡ true → level levels i.0 ≡ level levels j.0)
    → AreLevelParts w kept levels goes ps → (n a b : ℕ) → Walk (leads w ps) (suc n) a b → first_level levels (part_of ps a) < first_level levels (part_of ps b)
walks_up w kept levels goes ps same h zero a b k = subst (λ (c : ℕ). first_level levels (part_of ps a) < first_level levels (part_of ps c)) k.2 (leads_up w kept levels goes ps same h a k.0 k.1)
walks_up w kept levels goes ps same h (suc n) a b k =
    let one = leads_up w kept levels goes ps same h a k.0 k.1 in
    let rest = walks_up w kept levels goes ps same h n k.0 b k.2 in
    omega (arith, one, rest)

pub level_acyclic : (w : Workflow) (kept : List Bool) (levels : List ℕ) (goes : JobId → JobId → Bool) (ps : List (List JobId)) → ((i j : JobId) → goes i j ≡ true → level levels i.0 ≡ level levels j.0)
    → AreLevelParts w kept levels goes ps → (c : ℕ) → Returns (leads w ps) c → ⊥
level_acyclic w kept levels goes ps same h c r = let less = walks_up w kept levels goes ps same h r.0 c c r.1 in omega (arith, less)

-- ---- the condition

part_once : (goes : JobId → JobId → Bool) (levels : List ℕ) (kept : List Bool) (p : List JobId) → IsPart goes (before levels) (Kept kept) [] p → HasNoRepeats (job_numbers p)
part_once goes levels kept [] h = absurd h
part_once goes levels kept (f ∷ js) h = rises_once (before levels) (not_itself levels) (f ∷ js) (subst (Rises (before levels)) (ap (λ (xs : List JobId). f ∷ xs) (append-nil js)) h.1)

-- a number past the end has the empty part
at_or_none : (Q : List JobId → Type 0) (ps : List (List JobId)) (c : ℕ) → Every Q ps → Q [] → Q (part_of ps c)
at_or_none Q [] c h k = k
at_or_none Q (p ∷ ps) zero h k = h.0
at_or_none Q (p ∷ ps) (suc c) h k = at_or_none Q ps c h.1 k

at_each : (Q : List JobId → Type 0) (ps : List (List JobId)) (c : ℕ) → Every Q ps → c < length ps → Q (part_of ps c)
at_each Q [] c h l = absurd (omega (arith, l))
at_each Q (p ∷ ps) zero h l = h.0
at_each Q (p ∷ ps) (suc c) h l = at_each Q ps c h.1 (omega (arith, l))

pub are_parts : (w : Workflow) (kept : List Bool) (levels : List ℕ) (goes : JobId → JobId → Bool) (js : List JobId) → Climbs w kept levels → IsEquivalence goes → IsRanked kept levels (job_numbers js)
    → ((c : ℕ) → Returns (leads w (gathered goes js)) c → ⊥) → AreParts w kept (gathered goes js)
are_parts w kept levels goes js up equal ranked acyclic = record {
  kept_jobs = kept_jobs_;
  below = λ c j h. kept_below kept j (kept_jobs_ c j h);
  one_part = one_part goes (before levels) (Kept kept) equal ps each (gathered_apart goes js);
  once = λ c. at_or_none IsOnce ps c (every_as (IsPart goes (before levels) (Kept kept) []) IsOnce ps (λ p h. once_split p (part_once goes levels kept p h)) each) (once_split [] tt);
  few = let one = gathered_few goes js in let two = ranked_few kept levels js ranked in omega (arith, one, two);
  begins = λ c l. at_each (BeginsKept kept) ps c (every_as (IsPart goes (before levels) (Kept kept) []) (BeginsKept kept) ps begins_ each) l;
  ordered = λ c. at_or_none (IsOrdered w) ps c (every_as (IsPart goes (before levels) (Kept kept) []) (IsOrdered w) ps ordered_ each) (rising_ordered w kept levels [] up tt tt);
  acyclic = acyclic;
}
  where
    ps : List (List JobId)
    ps = gathered goes js

    each : Every (IsPart goes (before levels) (Kept kept) []) ps
    each = gathered_parts goes (before levels) (Kept kept) js (ranked_keeps kept levels js ranked) (ranked_rises kept levels js ranked)

    kept_jobs_ : (c j : ℕ) → is_among j (job_numbers (part_of ps c)) ≡ true → is_kept kept j ≡ true
    kept_jobs_ c j h = kept_in goes (before levels) kept (part_of ps c) j (part_at (IsPart goes (before levels) (Kept kept) []) ps c j each h) h

    begins_ : (p : List JobId) → IsPart goes (before levels) (Kept kept) [] p → BeginsKept kept p
    begins_ [] h = absurd h
    begins_ (f ∷ p) h = h.2.0

    ordered_ : (p : List JobId) → IsPart goes (before levels) (Kept kept) [] p → IsOrdered w p
    ordered_ [] h = absurd h
    ordered_ (f ∷ p) h = rising_ordered w kept levels (f ∷ p) up (subst (Rises (before levels)) (ap (λ (xs : List JobId). f ∷ xs) (append-nil p)) h.1) h.2

-- ---- groups

every_get : (P : JobId → Type 0) (js : List JobId) (i : ℕ) (d : JobId) → Every P js → i < length js → P (get_or js i d)
every_get P [] i d h l = absurd (omega (arith, l))
every_get P (j ∷ js) zero d h l = h.0
every_get P (j ∷ js) (suc i) d h l = every_get P js i d h.1 (omega (arith, l))

few_once : (n : ℕ) (js : List JobId) → HasNoRepeats (job_numbers js) → Every (λ (j : JobId). j.0 < n) js → length js ≤ n
few_once n js once below =
    subst (λ (m : ℕ). m ≤ n) (length-map js (λ (j : JobId). j.0))
    (length-le_from_distinct_below (job_numbers js) n (distinct (job_numbers js) once) (λ q h. every_at (λ (j : JobId). j.0 < n) js q below (sym (any_turned q (job_numbers js)) ∙ h)))

group_is : (n : ℕ) (js : List JobId) → n ≤ 10000 → HasNoRepeats (job_numbers js) → Every (λ (j : JobId). j.0 < n) js → IsGroup n js
group_is n js small once below = record {
  few = let few = few_once n js once below in omega (arith, few, small);
  once = once;
  below = All-from_get_or (λ (j : JobId). j.0 < n) js (record { 0 = 0 }) (λ i l. every_get (λ (j : JobId). j.0 < n) js i (record { 0 = 0 }) below l);
}

pub are_groups : (kept : List Bool) (levels : List ℕ) (goes : JobId → JobId → Bool) (js : List JobId) → length kept ≤ 10000 → IsRanked kept levels (job_numbers js) → (k : ℕ) → IsGroup (length kept) (part_of (gathered goes js) k)
are_groups kept levels goes js small ranked k = at_or_none (IsGroup (length kept)) (gathered goes js) k (every_as (IsPart goes (before levels) (Kept kept) []) (IsGroup (length kept)) (gathered goes js) one each) (group_is (length kept) [] small tt tt)
  where
    each : Every (IsPart goes (before levels) (Kept kept) []) (gathered goes js)
    each = gathered_parts goes (before levels) (Kept kept) js (ranked_keeps kept levels js ranked) (ranked_rises kept levels js ranked)

    one : (p : List JobId) → IsPart goes (before levels) (Kept kept) [] p → IsGroup (length kept) p
    one [] h = absurd h
    one (f ∷ p) h = group_is (length kept) (f ∷ p) small (part_once goes levels kept (f ∷ p) h) (every_as (Kept kept) (λ (j : JobId). j.0 < length kept) (f ∷ p) (λ j k. kept_below kept j.0 k) h.2)
