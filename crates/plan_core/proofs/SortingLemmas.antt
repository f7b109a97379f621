-- Numbers that were sorted, searched and taken out.
use Rattle.std.proofs.Common.{◌≡◌, ℕ, zero, suc, ◌+◌, ◌<◌, ◌≤◌, Bool, true, false, not, cond, ◌&&◌, ◌||◌, List, [], ◌∷◌, ◌++◌, length, refl, sym, ap, ◌∙◌, nat_eq, nat_lt, arith, subst, get_or, nat_cmp, ◌⊎◌, inl, inr}
use Rattle.std.specs.Prelude.{Result, Ok, Err, slice_index, is_ok}
use Rattle.std.specs.List.{dedup, Contains}
use Rattle.std.specs.List.Sorted.{IsPermutation, IsSorted, IsStrictlyIncreasing, IsBinarySearchResult}
use Rattle.std.specs.List.Retain.{IsFiltered, DiffersFromLast}
use Rattle.std.specs.Result.{MatchResult}
use Rattle.std.proofs.lemmas.List.Sorted.{list_any-IsPermutation, searched}
use Rattle.std.proofs.lemmas.Bool.{cases_lt}
use Rattle.std.proofs.lemmas.Option.{get_or_from_slice_get, slice_get_within}
use Rattle.std.proofs.lemmas.List.Filters.{dedup_is}
use Rattle.std.proofs.lemmas.List.Kept.{Contains-dedup_nat, Contains-from_dedup}
use Rattle.std.proofs.lemmas.Map.Keys.{IsStrictlyIncreasing-dedup}
use Rattle.std.proofs.lemmas.List.Folds.{list_any-append, list_any_at}
use Rattle.plan_core.specs.Numbers.{has}
use Rattle.plan_core.specs.code.Numbers.{RisesFrom}
use Rattle.plan_core.specs.code.Rising.{rises_after, is_rising, without}
use Rattle.plan_core.proofs.TestLemmas.{same_number, is_itself, by_bool, both, and_both}
use Rattle.plan_core.proofs.PairLemmas.{any_place}

below_test : (a b : ℕ) → nat_lt a b ≡ true → suc a ≤ b
below_test a b h = grind arith

test_below : (a b : ℕ) → suc a ≤ b → nat_lt a b ≡ true
test_below a b h = grind arith

pub after_rises : (x : ℕ) (xs : List ℕ) → rises_after x xs ≡ true → RisesFrom (suc x) xs
after_rises x [] h = tt
after_rises x (y ∷ ys) h = let parts = both (nat_lt x y) (rises_after y ys) h in (below_test x y parts.0, after_rises y ys parts.1)

pub rises_is_after : (x : ℕ) (xs : List ℕ) → RisesFrom (suc x) xs → rises_after x xs ≡ true
rises_is_after x [] h = refl
rises_is_after x (y ∷ ys) h = and_both (nat_lt x y) (rises_after y ys) (test_below x y h.0) (rises_is_after y ys h.1)

pub rising_rises : (xs : List ℕ) → is_rising xs ≡ true → RisesFrom 0 xs
rising_rises [] h = tt
rising_rises (x ∷ xs) h = (omega arith, after_rises x xs h)

pub rises_rising : (xs : List ℕ) → RisesFrom 0 xs → is_rising xs ≡ true
rises_rising [] h = refl
rises_rising (x ∷ xs) h = rises_is_after x xs h.1

tail_increases : (x : ℕ) (xs : List ℕ) → IsStrictlyIncreasing (x ∷ xs) → IsStrictlyIncreasing xs
tail_increases x xs h k l = let e : suc k + 1 ≡ suc (k + 1) = omega arith in subst (λ (n : ℕ). slice_index (x ∷ xs) (suc k) < slice_index (x ∷ xs) n) e (h (suc k) (omega (arith, l)))

from_increasing : (x : ℕ) (xs : List ℕ) → IsStrictlyIncreasing (x ∷ xs) → RisesFrom (suc x) xs
from_increasing x [] h = tt
from_increasing x (y ∷ ys) h = (let l : x < y = h 0 (omega arith) in omega arith, from_increasing y ys (tail_increases x (y ∷ ys) h))

pub increasing_rises : (xs : List ℕ) → IsStrictlyIncreasing xs → RisesFrom 0 xs
increasing_rises [] h = tt
increasing_rises (x ∷ xs) h = (omega arith, from_increasing x xs h)

pub sorted_rises : (xs ys : List ℕ) → IsSorted nat_cmp xs → IsFiltered (DiffersFromLast nat_eq) [] xs ys → RisesFrom 0 ys
sorted_rises xs ys sorted filtered = subst (RisesFrom 0) (sym (dedup_is nat_eq xs ys filtered)) (increasing_rises (dedup nat_eq xs) (IsStrictlyIncreasing-dedup xs sorted))

contains_has : (xs : List ℕ) (x : ℕ) → Contains xs x → has xs x ≡ true
contains_has xs x c = list_any_at (λ y. nat_eq y x) xs c.0 x c.1 (ap (λ (n : ℕ). nat_eq n x) c.2 ∙ is_itself x)

has_contains : (xs : List ℕ) (x : ℕ) → has xs x ≡ true → Contains xs x
has_contains [] x h = absurd cc
has_contains (y ∷ ys) x h = by (nat_eq y x) refl h (λ k. has_contains ys x k)
  where
    by : (b : Bool) → nat_eq y x ≡ b → (b || has ys x) ≡ true → (has ys x ≡ true → Contains ys x) → Contains (y ∷ ys) x
    by true e k rest = (0, omega arith, same_number y x e)
    by false e k rest = let found = rest k in (suc found.0, (let l : found.0 < length ys = found.1 in omega arith), found.2)

same_has : (xs ys : List ℕ) (x : ℕ) → (has xs x ≡ true → has ys x ≡ true) → (has ys x ≡ true → has xs x ≡ true) → has ys x ≡ has xs x
same_has xs ys x to from = by_bool (has ys x) (λ h. h ∙ sym (from h)) (λ h. by_bool (has xs x) (λ k. to k ∙ sym k) (λ k. h ∙ sym k))

pub dedup_same : (xs ys : List ℕ) → IsFiltered (DiffersFromLast nat_eq) [] xs ys → (x : ℕ) → has ys x ≡ has xs x
dedup_same xs ys filtered x = let is = dedup_is nat_eq xs ys filtered in
    ap (λ (zs : List ℕ). has zs x) is ∙ same_has xs (dedup nat_eq xs) x
    (λ h. contains_has (dedup nat_eq xs) x (Contains-dedup_nat xs x (has_contains xs x h)))
    (λ h. contains_has xs x (Contains-from_dedup nat_eq xs x (has_contains (dedup nat_eq xs) x h)))

pub sort_same : (xs ys zs : List ℕ) → IsPermutation xs ys → IsFiltered (DiffersFromLast nat_eq) [] ys zs → (x : ℕ) → has zs x ≡ has xs x
sort_same xs ys zs moved filtered x = dedup_same ys zs filtered x ∙ sym (list_any-IsPermutation (λ y. nat_eq y x) xs ys moved)

-- each is at least the bound, and later ones are no less
rises_low : (b : ℕ) (xs : List ℕ) → RisesFrom b xs → (i : ℕ) → i < length xs → b ≤ get_or xs i 0
rises_low b [] h i l = absurd (omega arith)
rises_low b (x ∷ xs) h zero l = h.0
rises_low b (x ∷ xs) h (suc i) l = let low : suc x ≤ get_or xs i 0 = rises_low (suc x) xs h.1 i (omega arith) in let first : b ≤ x = h.0 in omega arith

rises_order : (b : ℕ) (xs : List ℕ) → RisesFrom b xs → (i j : ℕ) → i ≤ j → j < length xs → get_or xs i 0 ≤ get_or xs j 0
rises_order b [] h i j l k = absurd (omega arith)
rises_order b (x ∷ xs) h zero zero l k = omega arith
rises_order b (x ∷ xs) h zero (suc j) l k = let low : suc x ≤ get_or xs j 0 = rises_low (suc x) xs h.1 j (omega arith) in omega arith
rises_order b (x ∷ xs) h (suc i) zero l k = absurd (omega arith)
rises_order b (x ∷ xs) h (suc i) (suc j) l k = rises_order (suc x) xs h.1 i j (omega arith) (omega arith)

pub found_has : (xs : List ℕ) (x : ℕ) (r : Result ℕ ℕ) → RisesFrom 0 xs → IsBinarySearchResult (λ y. nat_cmp y x) xs r → is_ok r ≡ has xs x
found_has xs x r rises found = by r (searched xs x r found (λ i j l k. rises_order 0 xs rises i j l k))
  where
    by : (s : Result ℕ ℕ) → MatchResult s (λ i. (i < length xs) × (get_or xs i 0 ≡ x)) (λ i. (i ≤ length xs) × ((k : ℕ) → k < i → get_or xs k 0 < x) × ((k : ℕ) → i ≤ k → k < length xs → x < get_or xs k 0)) → is_ok s ≡ has xs x
    by (Ok i) h = sym (list_any_at (λ y. nat_eq y x) xs i 0 h.0 (ap (λ (n : ℕ). nat_eq n x) h.1 ∙ is_itself x))
    by (Err i) h = by_bool (has xs x) (λ k. absurd (
        let found = any_place (λ y. nat_eq y x) xs k in
        let at : get_or xs found.0 0 ≡ x = get_or_from_slice_get xs found.0 found.1 0 found.2 ∙ same_number found.1 x found.3 in
        let within : found.0 < length xs = slice_get_within xs found.0 found.1 found.2 in
        off found.0 at within (cases_lt found.0 i))) (λ k. sym k)
      where
        off : (k : ℕ) → get_or xs k 0 ≡ x → k < length xs → (k < i) ⊎ (i ≤ k) → ⊥
        off k at within (inl l) = let low : get_or xs k 0 < x = h.1 k l in omega (arith, at)
        off k at within (inr l) = let high : x < get_or xs k 0 = h.2 k l within in omega (arith, at)

without_from : (b : ℕ) (xs others : List ℕ) → RisesFrom b xs → RisesFrom b (without xs others)
without_from b [] others h = tt
without_from b (x ∷ xs) others h = by (not (has others x)) (without_from (suc x) xs others h.1)
  where
    lower : (c d : ℕ) (ys : List ℕ) → c ≤ d → RisesFrom d ys → RisesFrom c ys
    lower c d [] l k = tt
    lower c d (y ∷ ys) l k = ((let m : d ≤ y = k.0 in omega arith), k.1)

    by : (t : Bool) → RisesFrom (suc x) (without xs others) → RisesFrom b (cond t (x ∷ []) [] ++ without xs others)
    by true k = (h.0, k)
    by false k = lower b (suc x) (without xs others) (let m : b ≤ x = h.0 in omega arith) k

pub without_rises : (xs others : List ℕ) → RisesFrom 0 xs → RisesFrom 0 (without xs others)
without_rises xs others h = without_from 0 xs others h

pub without_same : (xs others : List ℕ) (z : ℕ) → has (without xs others) z ≡ (has xs z && not (has others z))
without_same [] others z = refl
without_same (x ∷ xs) others z = list_any-append (λ y. nat_eq y z) (cond (not (has others x)) (x ∷ []) []) (without xs others) ∙ ap (λ (b : Bool). has (cond (not (has others x)) (x ∷ []) []) z || b) (without_same xs others z) ∙ by (nat_eq x z) refl
  where
    at : (b : Bool) → has (cond b (x ∷ []) []) z ≡ (nat_eq x z && b)
    at true = or_no (nat_eq x z)
      where
        or_no : (a : Bool) → (a || false) ≡ (a && true)
        or_no true = refl
        or_no false = refl
    at false = no (nat_eq x z)
      where
        no : (a : Bool) → false ≡ (a && false)
        no true = refl
        no false = refl

    join : (a b c : Bool) → ((a && b) || (c && b)) ≡ ((a || c) && b)
    join true true c = refl
    join true false true = refl
    join true false false = refl
    join false b c = refl

    by : (b : Bool) → nat_eq x z ≡ b → (has (cond (not (has others x)) (x ∷ []) []) z || (has xs z && not (has others z))) ≡ ((nat_eq x z || has xs z) && not (has others z))
    by true e = ap (λ (c : Bool). c || (has xs z && not (has others z))) (at (not (has others x)) ∙ ap (λ (y : ℕ). nat_eq x z && not (has others y)) (same_number x z e)) ∙ join (nat_eq x z) (not (has others z)) (has xs z)
    by false e = ap (λ (c : Bool). c || (has xs z && not (has others z))) (at (not (has others x)) ∙ ap (λ (c : Bool). c && not (has others x)) e) ∙ sym (ap (λ (c : Bool). (c || has xs z) && not (has others z)) e)
