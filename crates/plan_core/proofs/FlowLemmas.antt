-- The tests of tasks among each other.
use Rattle.std.proofs.Common.{◌≡◌, ℕ, zero, suc, ◌+◌, ◌<◌, ◌≤◌, Bool, true, false, ◌&&◌, ◌||◌, List, [], ◌∷◌, ◌++◌, length, take, refl, sym, ap, ◌∙◌, nat_eq, nat_lt, arith, subst, ◌⊎◌, inl, inr}
use Rattle.std.specs.Prelude.{Option, Some, None, Vec, slice_get, nat_le, is_some}
use Rattle.std.specs.Bool.{Decides}
use Rattle.std.specs.List.{list_any, list_all, flat_map, All}
use Rattle.std.specs.declared.alloc.Global.{Global}
use Rattle.std.proofs.lemmas.Bool.{cases_lt}
use Rattle.std.proofs.lemmas.Option.{slice_get_past}
use Rattle.std.proofs.lemmas.List.Folds.{list_any-append}
use Rattle.std.proofs.lemmas.List.Elements.{All-head}
use Rattle.digraph.specs.code.Adjacency.{lists_of}
use Rattle.digraph.specs.Adjacency.{neighbours, IsRising, AreNeighbours}
use Rattle.plan_core.specs.declared.plan.Plan.{Plan}
use Rattle.plan_core.specs.declared.plan.Task.{Task}
use Rattle.plan_core.specs.declared.plan.TaskKind.{TaskKind}
use Rattle.plan_core.specs.declared.plan.TaskKind.TheVariants.{Transfer, Run, Clean}
use Rattle.plan_core.specs.Numbers.{has, below}
use Rattle.plan_core.specs.code.Numbers.{RisesFrom}
use Rattle.plan_core.specs.Words.{reads, writes, parents, reads_in, parents_in, kind_in, is_run, count_tasks, count_pairs}
use Rattle.plan_core.specs.Kinds.{sweeps, task_waits, waits_for}
use Rattle.plan_core.specs.code.Proper.{AreParents}
use Rattle.plan_core.specs.code.Listing.{nodes, awaited, swept}
use Rattle.plan_core.specs.code.Flow.{HasOneWriter, includes, are_allowed, parents_fit}
use Rattle.plan_core.specs.code.Rising.{is_rising}
use Rattle.plan_core.proofs.TestLemmas.{is_itself, same_number, or_left, or_right, both, and_both}
use Rattle.plan_core.proofs.NumbersLemmas.{below_has}
use Rattle.plan_core.proofs.RisingLemmas.{rising_is_below, below_rises}
use Rattle.plan_core.proofs.SortingLemmas.{rising_rises, rises_rising}
use Rattle.plan_core.proofs.PairLemmas.{writer_of, written_of}
use Rattle.plan_core.proofs.TasksLemmas.{at_all, all_at}
use Rattle.plan_core.proofs.ListingLemmas.{made_lists, tasks_are_nodes, all_low}
use Rattle.digraph.specs.Cycle.{Returns}
use Rattle.std.specs.Option.{MatchOption}

-- lists of one element, or none
alone : (xs : List ℕ) (t u : ℕ) → length xs ≤ 1 → has xs t ≡ true → has xs u ≡ true → t ≡ u
alone [] t u l h k = absurd cc
alone (x ∷ []) t u l h k = sym (only t h) ∙ only u k
  where
    only : (v : ℕ) → has (x ∷ []) v ≡ true → x ≡ v
    only v e = by (nat_eq x v) refl e
      where
        by : (b : Bool) → nat_eq x v ≡ b → (b || false) ≡ true → x ≡ v
        by true p q = same_number x v p
        by false p q = absurd cc
alone (x ∷ y ∷ xs) t u l h k = absurd (omega arith)

some_one : (xs : List ℕ) → length xs ≡ 1 → (t : ℕ) × (has xs t ≡ true)
some_one [] l = absurd (omega (arith, l))
some_one (x ∷ xs) l = (x, or_left (nat_eq x x) (has xs x) (is_itself x))

not_none : (xs : List ℕ) (t : ℕ) → has xs t ≡ true → 1 ≤ length xs
not_none [] t h = absurd cc
not_none (x ∷ xs) t h = omega arith

few : (xs : List ℕ) → IsRising xs → ((t u : ℕ) → has xs t ≡ true → has xs u ≡ true → t ≡ u) → length xs ≤ 1
few [] h one = omega arith
few (x ∷ []) h one = omega arith
few (x ∷ y ∷ xs) h one = absurd (
    let less : x < y = All-head (λ m. x < m) y xs h.0 in
    let same : x ≡ y = one x y (or_left (nat_eq x x) (has (y ∷ xs) x) (is_itself x)) (or_right (nat_eq x y) (has (y ∷ xs) y) (or_left (nat_eq y y) (has xs y) (is_itself y))) in
    omega (arith, less, same))

le_test : (a : ℕ) → nat_le a 1 ≡ true → a ≤ 1
le_test a h = grind arith

test_le : (a : ℕ) → a ≤ 1 → nat_le a 1 ≡ true
test_le a h = grind arith

test_one : (a : ℕ) → a ≡ 1 → nat_eq a 1 ≡ true
test_one a h = grind arith

lt_test : (a b : ℕ) → nat_lt a b ≡ true → a < b
lt_test a b h = grind arith

test_lt : (a b : ℕ) → a < b → nat_lt a b ≡ true
test_lt a b h = grind arith

all_few : (vs : List (Vec ℕ Global)) → list_all (λ (v : Vec ℕ Global). nat_le (length v.items) 1) vs ≡ true → (k : ℕ) → length (neighbours (lists_of vs) k) ≤ 1
all_few [] h k = omega arith
all_few (v ∷ vs) h zero = le_test (length v.items) (both _ _ h).0
all_few (v ∷ vs) h (suc k) = all_few vs (both (nat_le (length v.items) 1) (list_all (λ (v : Vec ℕ Global). nat_le (length v.items) 1) vs) h).1 k

few_all : (vs : List (Vec ℕ Global)) → ((k : ℕ) → length (neighbours (lists_of vs) k) ≤ 1) → list_all (λ (v : Vec ℕ Global). nat_le (length v.items) 1) vs ≡ true
few_all [] h = refl
few_all (v ∷ vs) h = and_both _ _ (test_le (length v.items) (h zero)) (few_all vs (λ k. h (suc k)))

all_one : (vs : List (Vec ℕ Global)) (n k : ℕ) → list_all (λ (v : Vec ℕ Global). nat_eq (length v.items) 1) (take n vs) ≡ true → k < n → n ≤ length vs → length (neighbours (lists_of vs) k) ≡ 1
all_one [] n k h l m = absurd (omega (arith, l, m))
all_one (v ∷ vs) zero k h l m = absurd (omega (arith, l))
all_one (v ∷ vs) (suc n) zero h l m = same_number (length v.items) 1 (both _ _ h).0
all_one (v ∷ vs) (suc n) (suc k) h l m = all_one vs n k (both (nat_eq (length v.items) 1) (list_all (λ (v : Vec ℕ Global). nat_eq (length v.items) 1) (take n vs)) h).1 (omega (arith, l)) (omega (arith, m))

one_all : (vs : List (Vec ℕ Global)) (n : ℕ) → ((k : ℕ) → k < n → length (neighbours (lists_of vs) k) ≡ 1) → list_all (λ (v : Vec ℕ Global). nat_eq (length v.items) 1) (take n vs) ≡ true
one_all vs zero h = refl
one_all [] (suc n) h = refl
one_all (v ∷ vs) (suc n) h = and_both _ _ (test_one (length v.items) (h zero (omega arith))) (one_all vs n (λ k l. h (suc k) (omega (arith, l))))

length_lists : (vs : List (Vec ℕ Global)) → length (lists_of vs) ≡ length vs
length_lists [] = refl
length_lists (v ∷ vs) = ap suc (length_lists vs)

pub once_decided : (r s : ℕ → ℕ → Bool) (n : ℕ) (vs : List (Vec ℕ Global)) (b : Bool) → AreNeighbours r n (lists_of vs) → ((x t : ℕ) → r x t ≡ s t x) → b ≡ list_all (λ (v : Vec ℕ Global). nat_le (length v.items) 1) vs
    → Decides b ((t u x : ℕ) → s t x ≡ true → s u x ≡ true → t ≡ u)
once_decided r s n vs b is edges e = (to, from)
  where
    at : (t x : ℕ) → has (neighbours (lists_of vs) x) t ≡ s t x
    at t x = is.same x t ∙ edges x t

    to : b ≡ true → (t u x : ℕ) → s t x ≡ true → s u x ≡ true → t ≡ u
    to h t u x i j = alone (neighbours (lists_of vs) x) t u (all_few vs (sym e ∙ h) x) (at t x ∙ i) (at u x ∙ j)

    from : ((t u x : ℕ) → s t x ≡ true → s u x ≡ true → t ≡ u) → b ≡ true
    from one = e ∙ few_all vs (λ x. few (neighbours (lists_of vs) x) (is.rising x) (λ t u i j. one t u x (sym (at t x) ∙ i) (sym (at u x) ∙ j)))

pub writers_decided : (p : Plan) (r : ℕ → ℕ → Bool) (n : ℕ) (vs : List (Vec ℕ Global)) (b : Bool) → AreNeighbours r n (lists_of vs) → count_pairs p ≤ length (lists_of vs) → ((t q : ℕ) → has (writes p t) q ≡ true → q < count_pairs p)
    → ((q t : ℕ) → r q t ≡ has (writes p t) q) → b ≡ list_all (λ (v : Vec ℕ Global). nat_eq (length v.items) 1) (take (count_pairs p) vs) → Decides b (HasOneWriter p)
writers_decided p r n vs b is enough low edges e = (to, from)
  where
    long : count_pairs p ≤ length vs
    long = let l = length_lists vs in omega (arith, l, enough)

    at : (t q : ℕ) → has (neighbours (lists_of vs) q) t ≡ has (writes p t) q
    at t q = is.same q t ∙ edges q t

    to : b ≡ true → HasOneWriter p
    to h = record {
      written = λ q l. let found = some_one (neighbours (lists_of vs) q) (all_one vs (count_pairs p) q (sym e ∙ h) l long) in written_of p found.0 q (sym (at found.0 q) ∙ found.1);
      one = λ t u q i j. alone (neighbours (lists_of vs) q) t u (let one : length (neighbours (lists_of vs) q) ≡ 1 = all_one vs (count_pairs p) q (sym e ∙ h) (low t q i) long in omega (arith, one)) (at t q ∙ i) (at u q ∙ j);
    }

    exact : HasOneWriter p → (q : ℕ) → q < count_pairs p → length (neighbours (lists_of vs) q) ≡ 1
    exact h q l =
        let found = writer_of p q (h.written q l) in
        let some : 1 ≤ length (neighbours (lists_of vs) q) = not_none (neighbours (lists_of vs) q) found.0 (at found.0 q ∙ found.1) in
        let most : length (neighbours (lists_of vs) q) ≤ 1 = few (neighbours (lists_of vs) q) (is.rising q) (λ t u i j. h.one t u q (sym (at t q) ∙ i) (sym (at u q) ∙ j)) in
        omega (arith, some, most)

    from : HasOneWriter p → b ≡ true
    from h = e ∙ one_all vs (count_pairs p) (exact h)

-- who is awaited
any_flat : (test : ℕ → Bool) (g : ℕ → List ℕ) (xs : List ℕ) → list_any test (flat_map g xs) ≡ list_any (λ x. list_any test (g x)) xs
any_flat test g [] = refl
any_flat test g (x ∷ xs) = list_any-append test (g x) (flat_map g xs) ∙ ap (λ (b : Bool). list_any test (g x) || b) (any_flat test g xs)

any_same : (f g : ℕ → Bool) (xs : List ℕ) → ((x : ℕ) → f x ≡ g x) → list_any f xs ≡ list_any g xs
any_same f g [] h = refl
any_same f g (x ∷ xs) h = ap (λ (b : Bool). b || list_any f xs) (h x) ∙ ap (λ (b : Bool). g x || b) (any_same f g xs h)

swept_same : (p : Plan) (ws rs : List (List ℕ)) (u : ℕ) → ((q : ℕ) → has (neighbours ws q) u ≡ has (writes p u) q) → ((q : ℕ) → has (neighbours rs q) u ≡ has (reads p u) q) → (o : Option TaskKind)
    → has (swept ws rs o) u ≡ (sweeps o (writes p u) || sweeps o (reads p u))
swept_same p ws rs u w r None = refl
swept_same p ws rs u w r (Some (Transfer g from to)) = refl
swept_same p ws rs u w r (Some (Run s js)) = refl
swept_same p ws rs u w r (Some (Clean q)) = list_any-append (λ y. nat_eq y u) (neighbours ws q.0) (neighbours rs q.0) ∙ ap (λ (b : Bool). b || has (neighbours rs q.0) u) (w q.0) ∙ ap (λ (b : Bool). has (writes p u) q.0 || b) (r q.0)

pub awaited_same : (p : Plan) (ws rs : List (List ℕ)) → ((q u : ℕ) → has (neighbours ws q) u ≡ has (writes p u) q) → ((q u : ℕ) → has (neighbours rs q) u ≡ has (reads p u) q) → (t u : ℕ)
    → has (awaited ws rs (slice_get p.tasks t)) u ≡ waits_for p t u
unfolding waits_for writes reads
awaited_same p ws rs w r t u =
    let o = slice_get p.tasks t in
    list_any-append (λ y. nat_eq y u) (flat_map (neighbours ws) (reads_in o)) (swept ws rs (kind_in o))
    ∙ ap (λ (b : Bool). b || has (swept ws rs (kind_in o)) u) (any_flat (λ y. nat_eq y u) (neighbours ws) (reads_in o) ∙ any_same (λ q. has (neighbours ws q) u) (λ q. has (writes p u) q) (reads_in o) (λ q. w q u))
    ∙ ap (λ (b : Bool). list_any (λ q. has (writes p u) q) (reads_in o) || b) (swept_same p ws rs u (λ q. w q u) (λ q. r q u) (kind_in o))

nothing_in : (xs : List ℕ) → list_any (λ q. has [] q) xs ≡ false
nothing_in [] = refl
nothing_in (x ∷ xs) = nothing_in xs

sweeps_nothing : (o : Option TaskKind) → (sweeps o [] || sweeps o []) ≡ false
sweeps_nothing None = refl
sweeps_nothing (Some (Transfer g from to)) = refl
sweeps_nothing (Some (Run s js)) = refl
sweeps_nothing (Some (Clean q)) = refl

pub waits_low : (p : Plan) (t u : ℕ) → waits_for p t u ≡ true → u < count_tasks p
unfolding waits_for
waits_low p t u h = by (cases_lt u (count_tasks p))
  where
    none : (o : Option Task) → task_waits o None ≡ false
    none o = ap (λ (b : Bool). b || (sweeps (kind_in o) [] || sweeps (kind_in o) [])) (nothing_in (reads_in o)) ∙ sweeps_nothing (kind_in o)

    by : (u < count_tasks p) ⊎ (count_tasks p ≤ u) → u < count_tasks p
    by (inl l) = l
    by (inr l) = absurd (let x : false ≡ true = sym (none (slice_get p.tasks t)) ∙ ap (task_waits (slice_get p.tasks t)) (sym (slice_get_past p.tasks u l)) ∙ h in cc)

pub awaited_lists_are : (p : Plan) (ws rs : List (List ℕ)) (vs : List (Vec ℕ Global)) → length vs ≡ nodes p → ((t : ℕ) → t < nodes p → neighbours (lists_of vs) t ≡ awaited ws rs (slice_get p.tasks t)) → (t : ℕ) → neighbours (lists_of vs) t ≡ awaited ws rs (slice_get p.tasks t)
awaited_lists_are p ws rs vs long is = made_lists vs (nodes p) (λ t. awaited ws rs (slice_get p.tasks t)) long is (λ t h. ap (awaited ws rs) (slice_get_past p.tasks t (let low = tasks_are_nodes p in omega (arith, low, h))))

-- parents
from_rising : (b : ℕ) (xs : List ℕ) → All (λ m. b < m) xs → IsRising xs → RisesFrom (suc b) xs
from_rising b [] a h = tt
from_rising b (x ∷ xs) a h = (let l : b < x = All-head (λ m. b < m) x xs a in omega (arith, l), from_rising x xs h.0 h.1)

pub rising_from : (xs : List ℕ) → IsRising xs → RisesFrom 0 xs
rising_from [] h = tt
rising_from (x ∷ xs) h = (omega arith, from_rising x xs h.0 h.1)

pub parents_decided : (p : Plan) (t : ℕ) (xs needed : List ℕ) (b : Bool) → xs ≡ parents p t → RisesFrom 0 needed → ((u : ℕ) → has needed u ≡ waits_for p t u) → b ≡ parents_fit p xs needed t → Decides b (AreParents p t)
parents_decided p t xs needed b is rises same e = (to, from)
  where
    low : list_all (λ n. nat_lt n (count_tasks p)) xs ≡ true → (x : ℕ) → has xs x ≡ true → x < count_tasks p
    low h x k = lt_test x (count_tasks p) (all_at (λ n. nat_lt n (count_tasks p)) xs h x k)

    to : b ≡ true → AreParents p t
    to h =
        let x = both (is_rising xs) (list_all (λ n. nat_lt n (count_tasks p)) xs && (includes xs needed && are_allowed p xs needed t)) (sym e ∙ h) in
        let y = both (list_all (λ n. nat_lt n (count_tasks p)) xs) (includes xs needed && are_allowed p xs needed t) x.1 in
        let z = both (includes xs needed) (are_allowed p xs needed t) y.1 in
        record {
          listed = subst (λ (ys : List ℕ). ys ≡ below (count_tasks p) (has ys)) is (rising_is_below (count_tasks p) (has xs) xs (rising_rises xs x.0) (λ v k. (low y.0 v k, k)) (λ v l k. k));
          needed = λ u k. ap (λ (ys : List ℕ). has ys u) (sym is) ∙ all_at (λ v. has xs v) needed z.0 u (same u ∙ k);
          allowed = λ u k. ap (λ (c : Bool). c || (is_run p t && is_run p u)) (sym (same u)) ∙ all_at (λ v. has needed v || (is_run p t && is_run p v)) xs z.1 u (ap (λ (ys : List ℕ). has ys u) is ∙ k);
        }

    from : AreParents p t → b ≡ true
    from h =
        let whole : xs ≡ below (count_tasks p) (has (parents p t)) = is ∙ h.listed in
        e ∙ and_both (is_rising xs) (list_all (λ n. nat_lt n (count_tasks p)) xs && (includes xs needed && are_allowed p xs needed t))
        (rises_rising xs (subst (RisesFrom 0) (sym whole) (below_rises (count_tasks p) (has (parents p t)))))
        (and_both (list_all (λ n. nat_lt n (count_tasks p)) xs) (includes xs needed && are_allowed p xs needed t)
        (at_all (λ n. nat_lt n (count_tasks p)) xs (λ x k. test_lt x (count_tasks p) (below_has (count_tasks p) (has (parents p t)) x (ap (λ (ys : List ℕ). has ys x) (sym whole) ∙ k)).0))
        (and_both (includes xs needed) (are_allowed p xs needed t)
        (at_all (λ v. has xs v) needed (λ u k. ap (λ (ys : List ℕ). has ys u) is ∙ h.needed u (sym (same u) ∙ k)))
        (at_all (λ v. has needed v || (is_run p t && is_run p v)) xs (λ u k. ap (λ (c : Bool). c || (is_run p t && is_run p u)) (same u) ∙ h.allowed u (ap (λ (ys : List ℕ). has ys u) (sym is) ∙ k)))))

empty_below : (n : ℕ) → [] ≡ below n (has [])
unfolding below
empty_below zero = refl
empty_below (suc n) = ap (λ (xs : List ℕ). xs ++ []) (empty_below n)

no_parents : (p : Plan) (t : ℕ) → count_tasks p ≤ t → AreParents p t
unfolding parents waits_for
no_parents p t l =
    let past : slice_get p.tasks t ≡ None = slice_get_past p.tasks t l in
    let none : parents p t ≡ [] = ap parents_in past in
    record {
      listed = none ∙ empty_below (count_tasks p) ∙ ap (λ (xs : List ℕ). below (count_tasks p) (has xs)) (sym none);
      needed = λ u h. absurd (let x : false ≡ true = sym (ap (λ (o : Option Task). task_waits o (slice_get p.tasks u)) past) ∙ h in cc);
      allowed = λ u h. absurd (let x : false ≡ true = sym (ap (λ (xs : List ℕ). has xs u) none) ∙ h in cc);
    }

pub all_parents : (p : Plan) (i : ℕ) → count_tasks p ≤ i → ((k : ℕ) → k < i → AreParents p k) → (t : ℕ) → AreParents p t
all_parents p i l so t = by (cases_lt t i)
  where
    by : (t < i) ⊎ (i ≤ t) → AreParents p t
    by (inl k) = so t k
    by (inr k) = no_parents p t (omega (arith, l, k))

pub one_more_parents : (p : Plan) (i : ℕ) → AreParents p i → ((k : ℕ) → k < i → AreParents p k) → (k : ℕ) → k < i + 1 → AreParents p k
one_more_parents p i is so k l = by (cases_lt k i)
  where
    by : (k < i) ⊎ (i ≤ k) → AreParents p k
    by (inl m) = so k m
    by (inr m) = subst (AreParents p) (let s : i ≡ k = omega (arith, l, m) in s) is

-- for whom tasks wait, listed
pub awaited_edges : (p : Plan) (ws rs : List (List ℕ)) (vs : List (Vec ℕ Global)) → length vs ≡ nodes p → ((t : ℕ) → t < nodes p → neighbours (lists_of vs) t ≡ awaited ws rs (slice_get p.tasks t))
    → ((q u : ℕ) → has (neighbours ws q) u ≡ has (writes p u) q) → ((q u : ℕ) → has (neighbours rs q) u ≡ has (reads p u) q) → (t u : ℕ) → has (neighbours (lists_of vs) t) u ≡ waits_for p t u
awaited_edges p ws rs vs long is w r t u = ap (λ (xs : List ℕ). has xs u) (awaited_lists_are p ws rs vs long is t) ∙ awaited_same p ws rs w r t u

pub awaited_low : (p : Plan) (ws rs : List (List ℕ)) (vs : List (Vec ℕ Global)) → length vs ≡ nodes p → ((t : ℕ) → t < nodes p → neighbours (lists_of vs) t ≡ awaited ws rs (slice_get p.tasks t))
    → ((q u : ℕ) → has (neighbours ws q) u ≡ has (writes p u) q) → ((q u : ℕ) → has (neighbours rs q) u ≡ has (reads p u) q) → (k : ℕ) → All (λ m. m < length vs) (neighbours (lists_of vs) k)
awaited_low p ws rs vs long is w r k = all_low (length vs) (neighbours (lists_of vs) k) (λ x h.
    let l : x < count_tasks p = waits_low p k x (sym (awaited_edges p ws rs vs long is w r k x) ∙ h) in
    let m : count_tasks p ≤ nodes p = tasks_are_nodes p in omega (arith, l, m, long))

pub acyclic_decided : (e f : ℕ → ℕ → Bool) (o : Option (Vec ℕ Global)) (b : Bool) (T : Vec ℕ Global → Type 0) → ((x t : ℕ) → e x t ≡ f x t) → MatchOption o ((a : ℕ) × Returns e a) T → MatchOption o (Unit {0}) (λ _. (a : ℕ) → Returns e a → ⊥) → b ≡ is_some o
    → Decides b ((t : ℕ) → Returns f t → ⊥)
acyclic_decided e f o b T same order acyclic is = subst (λ (g : ℕ → ℕ → Bool). Decides b ((t : ℕ) → Returns g t → ⊥)) (λ i x t. same x t i) (by o order acyclic is)
  where
    by : (x : Option (Vec ℕ Global)) → MatchOption x ((a : ℕ) × Returns e a) T → MatchOption x (Unit {0}) (λ _. (a : ℕ) → Returns e a → ⊥) → b ≡ is_some x → Decides b ((t : ℕ) → Returns e t → ⊥)
    by None r none h = (λ k. absurd (let z : false ≡ true = sym h ∙ k in cc), λ never. absurd (never r.0 r.1))
    by (Some v) t never h = (λ k. never, λ k. h)
