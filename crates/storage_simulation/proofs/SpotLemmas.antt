-- The tasks sorted by home and need.
use Rattle.std.proofs.Common.{◌≡◌, ◌≢◌, ℕ, zero, suc, ◌+◌, ◌*◌, ◌^◌, ◌<◌, ◌≤◌, ◌&&◌, ◌⊎◌, inl, inr, Bool, true, false, cond, nat_eq, nat_lt, eqb-true, ltb-true, List, [], ◌∷◌, length, get_or, refl, sym, ap, ◌∙◌, arith}
use Rattle.std.specs.Prelude.{not, set, sum_by}
use Rattle.std.specs.List.{list_any}
use Rattle.std.specs.List.Sorted.{IsPermutation, IsSorted}
use Rattle.std.specs.Ordering.{nat_cmp, ordering_then, is_lt}
use Rattle.std.specs.declared.cmp.Ordering.TheVariants.{Less, Equal, Greater}
use Rattle.std.proofs.lemmas.Cmp.{nat_cmp_total, on_total, then_total}
use Rattle.std.proofs.lemmas.List.Sorted.{ranks_by, sorted_far, sum_by-IsPermutation, list_any-IsPermutation, length_permutation}
use Rattle.std.proofs.lemmas.List.Sums.{sum_by-cons}
use Rattle.std.proofs.lemmas.List.{get_or-set_same, get_or-set_other}
use Rattle.std.proofs.lemmas.Bool.{eqb-false, cases_lt}
use Rattle.plan_core.specs.declared.plan.Plan.{Plan}
use Rattle.plan_core.specs.Words.{count_pairs, count_tasks, writes}
use Rattle.storage_simulation.specs.code.Change.{held_part, size_part}
use Rattle.storage_simulation.specs.code.Front.{IsOrderable}
use Rattle.storage_simulation.specs.code.Goods.{IsWithinLimits}
use Rattle.storage_simulation.specs.Goods.{good_size, is_delivery, lies_at, makes}
use Rattle.storage_simulation.specs.code.Index.{AreSpots, IsUpTo, Spot, home, need, spot_at}
use Rattle.storage_simulation.specs.Ordering.{Progress}
use Rattle.storage_simulation.specs.Usage.{sum_of}
use Rattle.storage_simulation.proofs.FollowingLemmas.{both, by_bool, have_both, is_itself, or_case, or_left, or_right, un_not}
use Rattle.storage_simulation.proofs.ScoringLemmas.{rises_few, sum_small}
use Rattle.storage_simulation.proofs.UsageLemmas.{good_small}

-- a list is written anew
pub items_set : {X : Type 0} (d : X) (f : ℕ → X) (xs : List X) (i : ℕ) (x : X) → ((k : ℕ) → k < i → get_or xs k d ≡ f k) → x ≡ f i → i < length xs → (k : ℕ) → k < i + 1 → get_or (set xs i x) k d ≡ f k
items_set d f xs i x so is l k m = by_place (nat_eq i k) refl
  where
    by_place : (b : Bool) → nat_eq i k ≡ b → get_or (set xs i x) k d ≡ f k
    by_place true e = ap (λ (j : ℕ). get_or (set xs i x) j d) (sym (eqb-true i k e)) ∙ get_or-set_same xs i x d l ∙ is ∙ ap f (eqb-true i k e)
    by_place false e = get_or-set_other xs i k x d (λ h. eqb-false i k e (sym h)) ∙ so k (let ne = eqb-false i k e in omega (arith, ne, m))

-- tests of spots
any_place : (test : Spot → Bool) (xs : List Spot) → list_any test xs ≡ true → (j : ℕ) × (j < length xs) × (test (spot_at xs j) ≡ true)
any_place test [] h = absurd cc
any_place test (x ∷ xs) h = or_case (test x) (list_any test xs) h (λ e. (0, omega arith, e)) (λ m. let l = any_place test xs m in (suc l.0, (let a = l.1 in omega arith), l.2))

place_any : (test : Spot → Bool) (xs : List Spot) (j : ℕ) → j < length xs → test (spot_at xs j) ≡ true → list_any test xs ≡ true
place_any test [] j l h = absurd (omega arith)
place_any test (x ∷ xs) zero l h = or_left (test x) (list_any test xs) h
place_any test (x ∷ xs) (suc j) l h = or_right (test x) (list_any test xs) (place_any test xs j (omega arith) h)

-- each spot is that of its task
is_right : Plan → Progress → Spot → Bool
is_right p st x = nat_lt x.2 (count_tasks p) && (nat_eq x.0 (home p x.2) && nat_eq x.1 (need p st x.2))

right_of : (p : Plan) (st : Progress) (t : ℕ) → t < count_tasks p → is_right p st (home p t, need p st t, t) ≡ true
unfolding is_right
right_of p st t l = have_both (nat_lt t (count_tasks p)) (nat_eq (home p t) (home p t) && nat_eq (need p st t) (need p st t)) (let e : nat_lt t (count_tasks p) ≡ true = grind (arith, l) in e) (have_both (nat_eq (home p t) (home p t)) (nat_eq (need p st t) (need p st t)) (is_itself (home p t)) (is_itself (need p st t)))

right_parts : (p : Plan) (st : Progress) (x : Spot) → is_right p st x ≡ true → (x.2 < count_tasks p) × (x.0 ≡ home p x.2) × (x.1 ≡ need p st x.2)
unfolding is_right
right_parts p st x h =
    let a = both (nat_lt x.2 (count_tasks p)) (nat_eq x.0 (home p x.2) && nat_eq x.1 (need p st x.2)) h in
    let b = both (nat_eq x.0 (home p x.2)) (nat_eq x.1 (need p st x.2)) a.1 in
    (ltb-true x.2 (count_tasks p) a.0, eqb-true x.0 (home p x.2) b.0, eqb-true x.1 (need p st x.2) b.1)

abbrev AreOld : Plan → Progress → List Spot → Type 0
AreOld p st xs = (t : ℕ) → t < count_tasks p → spot_at xs t ≡ (home p t, need p st t, t)

all_right : (p : Plan) (st : Progress) (xs ys : List Spot) → length xs ≡ count_tasks p → AreOld p st xs → IsPermutation xs ys → (j : ℕ) → j < length ys → is_right p st (spot_at ys j) ≡ true
all_right p st xs ys long old perm j l = by_bool (is_right p st (spot_at ys j)) (λ e. e)
    (λ e. absurd (let wrong = place_any (λ x. not (is_right p st x)) ys j l (ap not e) in
    let there = any_place (λ x. not (is_right p st x)) xs (list_any-IsPermutation (λ x. not (is_right p st x)) xs ys perm ∙ wrong) in
    let low : there.0 < count_tasks p = let m = there.1 in omega (arith, m, long) in
    let right : is_right p st (spot_at xs there.0) ≡ true = ap (is_right p st) (old there.0 low) ∙ right_of p st there.0 low in
    let no = un_not (is_right p st (spot_at xs there.0)) there.2 in cc))

-- each task stands somewhere, and once
stands : (p : Plan) (st : Progress) (xs ys : List Spot) → length xs ≡ count_tasks p → AreOld p st xs → IsPermutation xs ys → (t : ℕ) → t < count_tasks p → (j : ℕ) × (j < length ys) × ((spot_at ys j).2 ≡ t)
stands p st xs ys long old perm t l =
    let before = place_any (λ x. nat_eq x.2 t) xs t (omega (arith, l, long)) (ap (λ (x : Spot). nat_eq x.2 t) (old t l) ∙ is_itself t) in
    let after = any_place (λ x. nat_eq x.2 t) ys (sym (list_any-IsPermutation (λ x. nat_eq x.2 t) xs ys perm) ∙ before) in
    (after.0, after.1, eqb-true (spot_at ys after.0).2 t after.2)

abbrev times : ℕ → List Spot → ℕ
times a xs = sum_by (λ (x : Spot). cond (nat_eq x.2 a) 1 0) xs

if_so : Bool → ℕ
if_so b = cond b 1 0

times_from : (a b : ℕ) (xs : List Spot) → ((j : ℕ) → j < length xs → (spot_at xs j).2 ≡ b + j) → times a xs ≤ 1 × (a < b → times a xs ≡ 0)
unfolding if_so
times_from a b [] h = (omega arith, λ l. refl)
times_from a b (x ∷ xs) h =
    let rest = times_from a (suc b) xs (λ j l. let n = h (suc j) (omega arith) in omega (arith, n)) in
    let first : x.2 ≡ b = let n = h 0 (omega arith) in omega (arith, n) in
    let sum = sum_by-cons (λ (y : Spot). cond (nat_eq y.2 a) 1 0) x xs in
    by_head (nat_eq x.2 a) refl rest first sum
  where
    by_head : (c : Bool) → nat_eq x.2 a ≡ c → times a xs ≤ 1 × (a < suc b → times a xs ≡ 0) → x.2 ≡ b → times a (x ∷ xs) ≡ if_so (nat_eq x.2 a) + times a xs → times a (x ∷ xs) ≤ 1 × (a < b → times a (x ∷ xs) ≡ 0)
    by_head true e rest first sum =
        let same : x.2 ≡ a = eqb-true x.2 a e in
        let none = rest.1 (omega (arith, same, first)) in
        let one : if_so (nat_eq x.2 a) ≡ 1 = ap if_so e in
        (omega (arith, sum, none, one), λ l. absurd (omega (arith, l, same, first)))
    by_head false e rest first sum =
        let none : if_so (nat_eq x.2 a) ≡ 0 = ap if_so e in
        (let most = rest.0 in omega (arith, sum, none, most), λ l. let zero_rest = rest.1 (omega (arith, l)) in omega (arith, sum, none, zero_rest))

once_there : (a : ℕ) (xs : List Spot) (j : ℕ) → j < length xs → (spot_at xs j).2 ≡ a → 1 ≤ times a xs
unfolding if_so
once_there a [] j l e = absurd (omega arith)
once_there a (x ∷ xs) zero l e = let sum = sum_by-cons (λ (y : Spot). cond (nat_eq y.2 a) 1 0) x xs in let one : if_so (nat_eq x.2 a) ≡ 1 = ap if_so (let g : nat_eq x.2 a ≡ true = grind (arith, e) in g) in omega (arith, sum, one)
once_there a (x ∷ xs) (suc j) l e = let sum = sum_by-cons (λ (y : Spot). cond (nat_eq y.2 a) 1 0) x xs in let rest = once_there a xs j (omega arith) e in omega (arith, sum, rest)

twice_there : (a : ℕ) (xs : List Spot) (i j : ℕ) → i < j → j < length xs → (spot_at xs i).2 ≡ a → (spot_at xs j).2 ≡ a → 2 ≤ times a xs
unfolding if_so
twice_there a [] i j k l e f = absurd (omega arith)
twice_there a (x ∷ xs) i zero k l e f = absurd (omega arith)
twice_there a (x ∷ xs) zero (suc j) k l e f =
    let sum = sum_by-cons (λ (y : Spot). cond (nat_eq y.2 a) 1 0) x xs in
    let one : if_so (nat_eq x.2 a) ≡ 1 = ap if_so (let g : nat_eq x.2 a ≡ true = grind (arith, e) in g) in
    let rest = once_there a xs j (omega arith) f in omega (arith, sum, one, rest)
twice_there a (x ∷ xs) (suc i) (suc j) k l e f = let sum = sum_by-cons (λ (y : Spot). cond (nat_eq y.2 a) 1 0) x xs in let rest = twice_there a xs i j (omega arith) (omega arith) e f in omega (arith, sum, rest)

pub apart : (p : Plan) (st : Progress) (xs ys : List Spot) → length xs ≡ count_tasks p → AreOld p st xs → IsPermutation xs ys → (i j : ℕ) → i < j → j < length ys → (spot_at ys i).2 ≢ (spot_at ys j).2
apart p st xs ys long old perm i j k l = λ e.
    let a : ℕ = (spot_at ys j).2 in
    let two = twice_there a ys i j k l e refl in
    let same = sum_by-IsPermutation (λ (x : Spot). cond (nat_eq x.2 a) 1 0) xs ys perm in
    let most = (times_from a 0 xs (λ n m. let is = ap (λ (x : Spot). x.2) (old n (omega (arith, m, long))) in omega (arith, is))).0 in
    omega (arith, two, same, most)

-- what is sorted rises
up_to : (x y : Spot) → is_lt (ordering_then (nat_cmp y.0 x.0) (ordering_then (nat_cmp y.1 x.1) (nat_cmp y.2 x.2))) ≡ false → IsUpTo x y
up_to x y h = by_first (nat_lt y.0 x.0) refl (nat_eq y.0 x.0) refl (nat_lt y.1 x.1) refl h
  where
    by_first : (a : Bool) → nat_lt y.0 x.0 ≡ a → (b : Bool) → nat_eq y.0 x.0 ≡ b → (c : Bool) → nat_lt y.1 x.1 ≡ c
        → is_lt (ordering_then (cond a Less (cond b Equal Greater)) (ordering_then (cond c Less (cond (nat_eq y.1 x.1) Equal Greater)) (nat_cmp y.2 x.2))) ≡ false → IsUpTo x y
    by_first true e b f c g h = absurd cc
    by_first false e true f true g h = absurd cc
    by_first false e true f false g h = inr (sym (eqb-true y.0 x.0 f), let l : x.1 ≤ y.1 = grind (arith, g) in l)
    by_first false e false f c g h = inl (let l : x.0 < y.0 = grind (arith, e, f) in l)

pub spots_are : (p : Plan) (st : Progress) (xs ys : List Spot) (slots : List ℕ) → length xs ≡ count_tasks p → AreOld p st xs → IsPermutation xs ys → IsSorted (λ (x y : Spot). ordering_then (nat_cmp x.0 y.0) (ordering_then (nat_cmp x.1 y.1) (nat_cmp x.2 y.2))) ys
    → ((j : ℕ) → j < length ys → get_or slots (spot_at ys j).2 0 ≡ j) → AreSpots p st ys slots
spots_are p st xs ys slots long old perm up slotted = record {
  long = all;
  below = λ j l. (right j l).0;
  home_is = λ j l. (right j l).1;
  need_is = λ j l. (right j l).2;
  rising = λ i j l m. up_to (spot_at ys i) (spot_at ys j) (sorted_far _ (ranks_by (then_total (on_total (λ (x : Spot). x.0) nat_cmp_total) (then_total (on_total (λ (x : Spot). x.1) nat_cmp_total) (on_total (λ (x : Spot). x.2) nat_cmp_total))) (λ (x : Spot). x)) ys up i j (0, 0, 0) l (omega (arith, m, all)));
  slotted = λ j l. slotted j (omega (arith, l, all));
  slot_in = λ t l. let at = stands p st xs ys long old perm t l in
      let is : get_or slots t 0 ≡ at.0 = ap (λ (u : ℕ). get_or slots u 0) (sym at.2) ∙ slotted at.0 at.1 in
      let low = at.1 in omega (arith, is, low, all);
  slot_is = λ t l. let at = stands p st xs ys long old perm t l in
      let is : get_or slots t 0 ≡ at.0 = ap (λ (u : ℕ). get_or slots u 0) (sym at.2) ∙ slotted at.0 at.1 in
      ap (λ (n : ℕ). (spot_at ys n).2) is ∙ at.2;
}
  where
    all : length ys ≡ count_tasks p
    all = length_permutation xs ys perm ∙ long

    right : (j : ℕ) → j < count_tasks p → ((spot_at ys j).2 < count_tasks p) × ((spot_at ys j).0 ≡ home p (spot_at ys j).2) × ((spot_at ys j).1 ≡ need p st (spot_at ys j).2)
    right j l = right_parts p st (spot_at ys j) (all_right p st xs ys long old perm j (omega (arith, l, all)))

pub spots_low : (p : Plan) (st : Progress) (xs ys : List Spot) → length xs ≡ count_tasks p → AreOld p st xs → IsPermutation xs ys → (j : ℕ) → j < length ys → (spot_at ys j).2 < count_tasks p
spots_low p st xs ys long old perm j l = (right_parts p st (spot_at ys j) (all_right p st xs ys long old perm j l)).0

pub spots_long : (p : Plan) (xs ys : List Spot) → length xs ≡ count_tasks p → IsPermutation xs ys → length ys ≡ count_tasks p
spots_long p xs ys long perm = length_permutation xs ys perm ∙ long

-- one slot more
pub slot_more : (spots : List Spot) (slots : List ℕ) (j : ℕ) → ((i : ℕ) → i < j → get_or slots (spot_at spots i).2 0 ≡ i) → ((i : ℕ) → i < j → (spot_at spots i).2 ≢ (spot_at spots j).2) → (spot_at spots j).2 < length slots
    → (i : ℕ) → i < j + 1 → get_or (set slots (spot_at spots j).2 j) (spot_at spots i).2 0 ≡ i
slot_more spots slots j so off low i l = by_place (cases_lt i j)
  where
    by_place : (i < j) ⊎ (j ≤ i) → get_or (set slots (spot_at spots j).2 j) (spot_at spots i).2 0 ≡ i
    by_place (inl m) = get_or-set_other slots (spot_at spots j).2 (spot_at spots i).2 j 0 (off i m) ∙ so i m
    by_place (inr m) = let same : i ≡ j = omega (arith, l, m) in ap (λ (n : ℕ). get_or (set slots (spot_at spots j).2 j) (spot_at spots n).2 0) same ∙ get_or-set_same slots (spot_at spots j).2 j 0 low ∙ sym same

-- sums over what a task makes are small
makes_few : (p : Plan) (t : ℕ) → IsOrderable p → IsWithinLimits p → length (makes p t) ≤ 64 * 50000 + 1
unfolding makes
makes_few p t able limits = by (is_delivery p t)
  where
    by : (b : Bool) → length (cond b ((count_pairs p + t) ∷ []) (writes p t)) ≤ 64 * 50000 + 1
    by true = omega arith
    by false = let few = rises_few 0 (count_pairs p) (writes p t) (able.writes_rise t) (omega arith) (able.writes_below t) in let most = limits.pairs in omega (arith, few, most)

pub made_small : (p : Plan) (t : ℕ) (w : ℕ → ℕ) → IsOrderable p → IsWithinLimits p → ((g : ℕ) → w g ≤ 2 ^ 40) → sum_of w (makes p t) < 2 ^ 62
made_small p t w able limits small = product (length (makes p t)) (sum_of w (makes p t)) (sum_small w (2 ^ 40) (makes p t) small) (makes_few p t able limits)
  where
    product : (n m : ℕ) → m ≤ n * 2 ^ 40 → n ≤ 64 * 50000 + 1 → m < 2 ^ 62
    product n m h l = omega (arith, h, l)

cond_small : (b : Bool) (x n : ℕ) → x ≤ n → cond b x 0 ≤ n
cond_small true x n h = h
cond_small false x n h = omega arith

pub size_small : (p : Plan) (s g : ℕ) → IsWithinLimits p → size_part p s g ≤ 2 ^ 40
size_small p s g limits = cond_small (lies_at p g s) (good_size p g) (2 ^ 40) (good_small p g limits)

pub held_small : (p : Plan) (sz : ℕ → ℕ) (s g : ℕ) → ((g : ℕ) → sz g ≤ 2 ^ 40) → held_part p sz s g ≤ 2 ^ 40
held_small p sz s g small = cond_small (lies_at p g s) (sz g) (2 ^ 40) (small g)
