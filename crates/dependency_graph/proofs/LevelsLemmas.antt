-- The levels, one job more.
use Rattle.std.proofs.Common.{◌≡◌, ℕ, zero, suc, ◌+◌, ◌<◌, ◌≤◌, ◌||◌, max, Bool, true, false, cond, List, [], ◌∷◌, ◌++◌, length, map, take, get_or, refl, sym, ap, subst, ◌∙◌, nat_eq, arith}
use Rattle.std.specs.Prelude.{slice_set, replicate}
use Rattle.std.specs.List.{All}
use Rattle.std.proofs.lemmas.Bool.{eqb-true, eqb-false, eq-eqb, ne_eqb}
use Rattle.std.proofs.lemmas.List.{take_more, take_all, ext_get_or, length-set, length-map, length-replicate, get_or_default, get_or-map, get_or-set_same, get_or-set_other}
use Rattle.std.proofs.lemmas.List.Folds.{list_any-append}
use Rattle.std.proofs.Math.Bool.{or-false, or-true}
use Rattle.values.specs.declared.numbers.JobId.{JobId}
use Rattle.workflow_core.specs.declared.workflow.Workflow.{Workflow}
use Rattle.workflow_core.specs.code.WellFormed.{IsWellFormed}
use Rattle.dependency_graph.proofs.GraphLemmas.{numbers_in}
use Rattle.dependency_graph.specs.Graph.{IsGraphOf, Links, jobs_at, numbers}
use Rattle.dependency_graph.specs.Levels.{AreLevels, above, above_all, is_kept, level, level_by}
use Rattle.digraph.specs.Adjacency.{has_node, neighbours, times}

pub above_push : (kept : List Bool) (levels : List ℕ) (js : List JobId) (j : JobId) → above_all kept levels (js ++ j ∷ []) ≡ max (above kept levels j.0) (above_all kept levels js)
above_push kept levels [] j = refl
above_push kept levels (x ∷ js) j = let rest = above_push kept levels js j in omega (arith, rest)

-- what lies above jobs whose levels stay
above_same : (kept : List Bool) (levels new : List ℕ) (js : List JobId) → ((b : ℕ) → has_node b (numbers js) ≡ true → level levels b ≡ level new b) → above_all kept levels js ≡ above_all kept new js
above_same kept levels new [] same = refl
above_same kept levels new (j ∷ js) same =
    let here : level levels j.0 ≡ level new j.0 = same j.0 (ap (λ (t : Bool). t || has_node j.0 (numbers js)) (eq-eqb j.0 j.0 refl)) in
    let one : above kept levels j.0 ≡ above kept new j.0 = ap (λ (n : ℕ). cond (is_kept kept j.0) (suc n) 0) here in
    let rest : above_all kept levels js ≡ above_all kept new js = above_same kept levels new js (λ b there. same b (ap (λ (t : Bool). nat_eq j.0 b || t) there ∙ or-true (nat_eq j.0 b))) in
    omega (arith, one, rest)

above_one : (kept : List Bool) (levels : List ℕ) (k a : ℕ) → level levels a ≤ k → above kept levels a ≤ k + 1
above_one kept levels k a small = by (is_kept kept a)
  where
    by : (t : Bool) → cond t (suc (level levels a)) 0 ≤ k + 1
    by true = omega (arith, small)
    by false = omega arith

above_small : (kept : List Bool) (levels : List ℕ) (k : ℕ) → ((a : ℕ) → level levels a ≤ k) → (js : List JobId) → above_all kept levels js ≤ k + 1
above_small kept levels k small [] = omega arith
above_small kept levels k small (j ∷ js) = let rest = above_small kept levels k small js in let one = above_one kept levels k j.0 (small j.0) in omega (arith, rest, one)

-- the lists of a graph's parents, as numbers
parents_at : (ls : List (List JobId)) (a : ℕ) → neighbours (map numbers ls) a ≡ numbers (jobs_at ls a)
parents_at [] a = refl
parents_at (l ∷ ls) zero = refl
parents_at (l ∷ ls) (suc a) = parents_at ls a

-- a graph's order: its number of jobs, each one new where it stands, after its parents
abbrev pub tally : ℕ → List ℕ → ℕ
tally zero ns = 0
tally (suc n) ns = times n ns + tally n ns

pub tally_none : (n : ℕ) → tally n [] ≡ 0
tally_none zero = refl
tally_none (suc n) = let rest = tally_none n in omega (arith, rest)

tally_past : (n a : ℕ) (ns : List ℕ) → n ≤ a → tally n (a ∷ ns) ≡ tally n ns
tally_past zero a ns past = refl
tally_past (suc n) a ns past =
    let rest = tally_past n a ns (omega arith) in
    let here : cond {A = ℕ} (nat_eq a n) 1 0 ≡ 0 = ap (λ (t : Bool). cond {A = ℕ} t 1 0) (ne_eqb a n (λ e. omega arith)) in
    omega (arith, rest, here)

pub tally_more : (n a : ℕ) (ns : List ℕ) → a < n → tally n (a ∷ ns) ≡ suc (tally n ns)
tally_more zero a ns low = absurd (omega arith)
tally_more (suc n) a ns low = by (nat_eq a n) refl (λ l. tally_more n a ns l)
  where
    by : (t : Bool) → nat_eq a n ≡ t → (a < n → tally n (a ∷ ns) ≡ suc (tally n ns)) → (cond {A = ℕ} (nat_eq a n) 1 0 + times n ns) + tally n (a ∷ ns) ≡ suc (times n ns + tally n ns)
    by true e rest =
        let one : cond {A = ℕ} (nat_eq a n) 1 0 ≡ 1 = ap (λ (t : Bool). cond {A = ℕ} t 1 0) e in
        let past : tally n (a ∷ ns) ≡ tally n ns = tally_past n a ns (let s : a ≡ n = eqb-true a n e in omega arith) in
        omega (arith, one, past)
    by false e rest =
        let none : cond {A = ℕ} (nat_eq a n) 1 0 ≡ 0 = ap (λ (t : Bool). cond {A = ℕ} t 1 0) e in
        let differ = eqb-false a n e in
        let more : tally n (a ∷ ns) ≡ suc (tally n ns) = rest (omega arith) in
        omega (arith, none, more)

tally_length : (n : ℕ) (ns : List ℕ) → All (λ a. a < n) ns → tally n ns ≡ length ns
tally_length n [] all = tally_none n
tally_length n (a ∷ ns) all = tally_more n a ns (all 0 a (omega arith)) ∙ ap suc (tally_length n ns (λ i d h. all (suc i) d (omega (arith, h))))

tally_once : (n : ℕ) (ns : List ℕ) → ((b : ℕ) → b < n → times b ns ≡ 1) → tally n ns ≡ n
tally_once zero ns once = refl
tally_once (suc n) ns once = let rest = tally_once n ns (λ b low. once b (omega arith)) in let here = once n (omega arith) in omega (arith, rest, here)

pub order_long : (w : Workflow) (g : Links) → IsGraphOf w g → length g.ordered ≡ length w.jobs
order_long w g graph = sym (length-map g.ordered (λ (j : JobId). j.0)) ∙ sym (tally_length (length w.jobs) (numbers g.ordered) graph.order.in_range) ∙ tally_once (length w.jobs) (numbers g.ordered) graph.order.each_once

stands : (ns : List ℕ) (i : ℕ) → i < length ns → 1 ≤ times (get_or ns i 0) ns
stands [] i low = absurd (omega arith)
stands (n ∷ ns) zero low = let one : cond {A = ℕ} (nat_eq n n) 1 0 ≡ 1 = ap (λ (t : Bool). cond {A = ℕ} t 1 0) (eq-eqb n n refl) in omega (arith, one)
stands (n ∷ ns) (suc i) low = let rest = stands ns i (omega arith) in omega (arith, rest)

new_there : (ns : List ℕ) (i : ℕ) → i < length ns → times (get_or ns i 0) ns ≤ 1 → has_node (get_or ns i 0) (take i ns) ≡ false
new_there [] i low once = absurd (omega arith)
new_there (n ∷ ns) zero low once = refl
new_there (n ∷ ns) (suc i) low once = by (nat_eq n (get_or ns i 0)) refl once (λ few. new_there ns i (omega (arith, low)) few)
  where
    by : (t : Bool) → nat_eq n (get_or ns i 0) ≡ t → cond {A = ℕ} t 1 0 + times (get_or ns i 0) ns ≤ 1 → (times (get_or ns i 0) ns ≤ 1 → has_node (get_or ns i 0) (take i ns) ≡ false) → (t || has_node (get_or ns i 0) (take i ns)) ≡ false
    by true e few rest = absurd (let there = stands ns i (omega (arith, low)) in let k : 1 + times (get_or ns i 0) ns ≤ 1 = few in omega (arith, there, k))
    by false e few rest = rest (let k : 0 + times (get_or ns i 0) ns ≤ 1 = few in omega (arith, k))

abbrev pub seen : Links → ℕ → List ℕ
seen g i = take i (numbers g.ordered)

abbrev pub placed : Links → ℕ → ℕ
placed g i = get_or (numbers g.ordered) i 0

-- what holds once so many jobs of a graph's order have their levels
pub record IsLeveled (g : Links) (kept : List Bool) (levels : List ℕ) (i : ℕ) : Type 0 where
  pub long : length levels ≡ length kept
  pub small : (a : ℕ) → level levels a ≤ i
  pub closed : (a b : ℕ) → has_node a (seen g i) ≡ true → has_node b (numbers (jobs_at g.parents a)) ≡ true → has_node b (seen g i) ≡ true
  pub each : (a : ℕ) → has_node a (seen g i) ≡ true → level levels a ≡ level_by g kept levels a

zero_at : (n a : ℕ) → level (replicate n 0) a ≡ 0
zero_at zero a = refl
zero_at (suc n) zero = refl
zero_at (suc n) (suc a) = zero_at n a

pub leveled_none : (g : Links) (kept : List Bool) (levels : List ℕ) → levels ≡ replicate (length kept) 0 → IsLeveled g kept levels 0
leveled_none g kept levels zeros = record {
  long = ap (λ (xs : List ℕ). length xs) zeros ∙ length-replicate (length kept) 0;
  small = λ a. let none : level levels a ≡ 0 = ap (λ (xs : List ℕ). level xs a) zeros ∙ zero_at (length kept) a in omega (arith, none);
  closed = λ a b there parent. absurd cc;
  each = λ a there. absurd cc;
}

-- the job at a place of the order
pub below : (w : Workflow) (g : Links) → IsGraphOf w g → (i : ℕ) → i < length g.ordered → placed g i < length w.jobs
below w g graph i low = graph.order.in_range i 0 (omega (arith, low, length-map g.ordered (λ (j : JobId). j.0)))

pub parents_in : (w : Workflow) (g : Links) → IsGraphOf w g → (a : ℕ) → All (λ (p : JobId). p.0 < length w.jobs) (jobs_at g.parents a)
parents_in w g graph a = numbers_in (length w.jobs) (jobs_at g.parents a) (subst (λ (ns : List ℕ). All (λ n. n < length w.jobs) ns) (parents_at g.parents a) (graph.parents.in_range a))

parents_first : (w : Workflow) (g : Links) → IsGraphOf w g → (i : ℕ) → i < length g.ordered → (b : ℕ) → has_node b (numbers (jobs_at g.parents (placed g i))) ≡ true → has_node b (seen g i) ≡ true
parents_first w g graph i low b parent =
    graph.order.in_order i (placed g i) (omega (arith, low, length-map g.ordered (λ (j : JobId). j.0))) (get_or_default (numbers g.ordered) i (placed g i) 0 (omega (arith, low, length-map g.ordered (λ (j : JobId). j.0)))) b
    (sym (graph.parents.same (placed g i) b) ∙ ap (has_node b) (parents_at g.parents (placed g i)) ∙ parent)

new_placed : (w : Workflow) (g : Links) → IsGraphOf w g → (i : ℕ) → i < length g.ordered → has_node (placed g i) (seen g i) ≡ false
new_placed w g graph i low = new_there (numbers g.ordered) i (omega (arith, low, length-map g.ordered (λ (j : JobId). j.0))) (let once = graph.order.each_once (placed g i) (below w g graph i low) in omega (arith, once))

seen_more : (g : Links) (i : ℕ) → i < length g.ordered → (b : ℕ) → has_node b (seen g (i + 1)) ≡ (has_node b (seen g i) || nat_eq (placed g i) b)
seen_more g i low b =
    ap (has_node b) (take_more (numbers g.ordered) i 0 (omega (arith, low, length-map g.ordered (λ (j : JobId). j.0))))
    ∙ list_any-append (λ n. nat_eq n b) (seen g i) (placed g i ∷ []) ∙ ap (λ (t : Bool). has_node b (seen g i) || t) (or-false (nat_eq (placed g i) b))

level_set : (levels : List ℕ) (x v a : ℕ) → x < length levels → level (slice_set levels x v) a ≡ cond {A = ℕ} (nat_eq x a) v (level levels a)
level_set levels x v a low = by (nat_eq x a) refl
  where
    by : (t : Bool) → nat_eq x a ≡ t → level (slice_set levels x v) a ≡ cond {A = ℕ} t v (level levels a)
    by true e = ap (λ (k : ℕ). level (slice_set levels x v) k) (sym (eqb-true x a e)) ∙ get_or-set_same levels x v 0 low
    by false e = get_or-set_other levels x a v 0 (λ k. eqb-false x a e (sym k))

pub leveled_more : (w : Workflow) (g : Links) (kept : List Bool) (levels : List ℕ) (i v : ℕ) → IsGraphOf w g → length kept ≡ length g.parents → IsLeveled g kept levels i → i < length g.ordered
    → v ≡ level_by g kept levels (placed g i) → IsLeveled g kept (slice_set levels (placed g i) v) (i + 1)
leveled_more w g kept levels i v graph many is low value = record {
  long = length-set levels x v ∙ is.long;
  small = λ a. let at = level_set levels x v a within in omega (arith, at, small_by (nat_eq x a) (level levels a) (is.small a));
  closed = λ a b there parent. seen_more g i low b ∙ ap (λ (t : Bool). t || nat_eq x b) (closed_by a b (has_node a (seen g i)) refl there parent);
  each = λ a there. each_by a (has_node a (seen g i)) refl there;
}
  where
    x : ℕ
    x = placed g i

    new : List ℕ
    new = slice_set levels x v

    within : x < length levels
    within = let l = below w g graph i low in let p = graph.parents.long in let q = length-map g.parents numbers in omega (arith, l, p, q, many, is.long)

    v_small : v ≤ i + 1
    v_small = by (is_kept kept x) value
      where
        by : (t : Bool) → v ≡ cond t (above_all kept levels (jobs_at g.parents x)) 0 → v ≤ i + 1
        by true e = let s = above_small kept levels i is.small (jobs_at g.parents x) in omega (arith, e, s)
        by false e = omega (arith, e)

    small_by : (t : Bool) (n : ℕ) → n ≤ i → cond {A = ℕ} t v n ≤ i + 1
    small_by true n h = v_small
    small_by false n h = omega (arith, h)

    or_seen : (a : ℕ) (t : Bool) → has_node a (seen g i) ≡ t → has_node a (seen g (i + 1)) ≡ true → (t || nat_eq x a) ≡ true
    or_seen a t e there = sym (ap (λ (b : Bool). b || nat_eq x a) e) ∙ sym (seen_more g i low a) ∙ there

    closed_by : (a b : ℕ) (t : Bool) → has_node a (seen g i) ≡ t → has_node a (seen g (i + 1)) ≡ true → has_node b (numbers (jobs_at g.parents a)) ≡ true → has_node b (seen g i) ≡ true
    closed_by a b true e there parent = is.closed a b e parent
    closed_by a b false e there parent = parents_first w g graph i low b (ap (λ (k : ℕ). has_node b (numbers (jobs_at g.parents k))) (eqb-true x a (or_seen a false e there)) ∙ parent)

    unchanged : (b : ℕ) → has_node b (seen g i) ≡ true → level levels b ≡ level new b
    unchanged b there = sym (level_set levels x v b within ∙ by (nat_eq x b) refl)
      where
        by : (t : Bool) → nat_eq x b ≡ t → cond {A = ℕ} t v (level levels b) ≡ level levels b
        by true e = absurd (let again : has_node x (seen g i) ≡ true = ap (λ (k : ℕ). has_node k (seen g i)) (eqb-true x b e) ∙ there in let no_more = new_placed w g graph i low in cc)
        by false e = refl

    same_by : (a : ℕ) → ((b : ℕ) → has_node b (numbers (jobs_at g.parents a)) ≡ true → has_node b (seen g i) ≡ true) → level_by g kept levels a ≡ level_by g kept new a
    same_by a first = ap (λ (n : ℕ). cond (is_kept kept a) n 0) (above_same kept levels new (jobs_at g.parents a) (λ b parent. unchanged b (first b parent)))

    each_by : (a : ℕ) (t : Bool) → has_node a (seen g i) ≡ t → has_node a (seen g (i + 1)) ≡ true → level new a ≡ level_by g kept new a
    each_by a true e there = sym (unchanged a e) ∙ is.each a e ∙ same_by a (λ b parent. is.closed a b e parent)
    each_by a false e there = subst (λ (k : ℕ). level new k ≡ level_by g kept new k) (eqb-true x a (or_seen a false e there))
        (level_set levels x v x within ∙ ap (λ (t : Bool). cond {A = ℕ} t v (level levels x)) (eq-eqb x x refl) ∙ value ∙ same_by x (parents_first w g graph i low))

has_some : (a : ℕ) (ns : List ℕ) → times a ns ≡ 1 → has_node a ns ≡ true
has_some a [] once = absurd (omega (arith, once))
has_some a (n ∷ ns) once = by (nat_eq n a) refl once (has_some a ns)
  where
    by : (t : Bool) → nat_eq n a ≡ t → cond {A = ℕ} t 1 0 + times a ns ≡ 1 → (times a ns ≡ 1 → has_node a ns ≡ true) → (t || has_node a ns) ≡ true
    by true e k rest = refl
    by false e k rest = rest (omega (arith, k))

pub leveled_all : (w : Workflow) (g : Links) (kept : List Bool) (levels : List ℕ) (i : ℕ) → IsGraphOf w g → length kept ≡ length g.parents → IsLeveled g kept levels i → length g.ordered ≤ i → AreLevels g kept levels
leveled_all w g kept levels i graph many is past = record {
  long = is.long;
  each = λ a low. is.each a (ap (has_node a) (take_all i (numbers g.ordered) (omega (arith, past, length-map g.ordered (λ (j : JobId). j.0)))) ∙ has_some a (numbers g.ordered) (graph.order.each_once a (let p = graph.parents.long in let q = length-map g.parents numbers in omega (arith, p, q, many, low))));
}

-- the same in the words of the walk
pub job_is : (g : Links) (js : List JobId) (i : ℕ) → js ≡ g.ordered → i < length js → (i < length g.ordered) × ((get_or js i (record { 0 = 0 })).0 ≡ placed g i)
job_is g js i is low =
    let here : i < length g.ordered = subst (λ (ks : List JobId). i < length ks) is low in
    (here, ap (λ (ks : List JobId). (get_or ks i (record { 0 = 0 })).0) is ∙ sym (get_or-map (λ (j : JobId). j.0) g.ordered i (record { 0 = 0 }) 0 here))

pub parents_kept : (w : Workflow) (g : Links) (kept : List Bool) → IsGraphOf w g → length kept ≡ length g.parents → (a : ℕ) → All (λ (p : JobId). p.0 < length kept) (jobs_at g.parents a)
parents_kept w g kept graph many a = subst (λ (n : ℕ). All (λ (p : JobId). p.0 < n) (jobs_at g.parents a)) (sym (many ∙ sym (length-map g.parents numbers) ∙ graph.parents.long)) (parents_in w g graph a)

pub levels_low : (w : Workflow) (g : Links) (kept : List Bool) (levels : List ℕ) (i : ℕ) → IsWellFormed w → IsGraphOf w g → IsLeveled g kept levels i → i < length g.ordered → (a : ℕ) → level levels a < 10000
levels_low w g kept levels i formed graph is low a = let few = formed.few_jobs in let long = order_long w g graph in let small = is.small a in omega (arith, few, long, small, low)

-- two lists of levels say the same
pub agree : (w : Workflow) (g : Links) (kept : List Bool) (one two : List ℕ) → IsGraphOf w g → length kept ≡ length g.parents → AreLevels g kept one → AreLevels g kept two
    → (i : ℕ) → i ≤ length g.ordered → (a : ℕ) → has_node a (seen g i) ≡ true → level one a ≡ level two a
agree w g kept one two graph many first second zero low a there = absurd cc
agree w g kept one two graph many first second (suc i) low a there = by (has_node a (seen g i)) refl (agree w g kept one two graph many first second i (omega (arith, low)))
  where
    here : level_by g kept one (placed g i) ≡ level_by g kept two (placed g i) → level one (placed g i) ≡ level two (placed g i)
    here same = let within : placed g i < length kept = (let l = below w g graph i (omega (arith, low)) in let p = graph.parents.long in let q = length-map g.parents numbers in omega (arith, l, p, q, many)) in
        first.each (placed g i) within ∙ same ∙ sym (second.each (placed g i) within)

    next : suc i ≡ i + 1
    next = omega arith

    by : (t : Bool) → has_node a (seen g i) ≡ t → ((b : ℕ) → has_node b (seen g i) ≡ true → level one b ≡ level two b) → level one a ≡ level two a
    by true e rest = rest a e
    by false e rest =
        let is : (has_node a (seen g i) || nat_eq (placed g i) a) ≡ true = sym (seen_more g i (omega (arith, low)) a) ∙ subst (λ (k : ℕ). has_node a (seen g k) ≡ true) next there in
        let at : placed g i ≡ a = eqb-true (placed g i) a (sym (ap (λ (t : Bool). t || nat_eq (placed g i) a) e) ∙ is) in
        subst (λ (k : ℕ). level one k ≡ level two k) at (here (ap (λ (n : ℕ). cond (is_kept kept (placed g i)) n 0) (above_same kept one two (jobs_at g.parents (placed g i)) (λ b parent. rest b (parents_first w g graph i (omega (arith, low)) b parent)))))

pub one_levels : (w : Workflow) (g : Links) (kept : List Bool) (one two : List ℕ) → IsGraphOf w g → length kept ≡ length g.parents → AreLevels g kept one → AreLevels g kept two → one ≡ two
one_levels w g kept one two graph many first second = ext_get_or 0 one two (first.long ∙ sym second.long) (λ a low. agree w g kept one two graph many first second (length g.ordered) (omega arith) a
    (ap (has_node a) (take_all (length g.ordered) (numbers g.ordered) (omega (arith, length-map g.ordered (λ (j : JobId). j.0))))
    ∙ has_some a (numbers g.ordered) (graph.order.each_once a (let p = graph.parents.long in let q = length-map g.parents numbers in omega (arith, p, q, many, low, first.long)))))
