-- Numbers in rising order, and a binary search among pairs.
use Rattle.std.proofs.Common.{◌≡◌, ℕ, zero, suc, ◌<◌, ◌≤◌, ◌||◌, ◌⊎◌, inl, inr, Bool, true, false, nat_cmp, nat_eq, List, [], ◌∷◌, ◌++◌, length, get_or, refl, sym, ap, subst, ◌∙◌, arith, eqb-true}
use Rattle.std.specs.Prelude.{Result, Ok, Err, is_ok}
use Rattle.std.specs.Ordering.{ordering_index}
use Rattle.std.proofs.lemmas.Bool.{cases_lt}
use Rattle.std.specs.List.Sorted.{IsBinarySearchResult}
use Rattle.std.proofs.lemmas.List.Sorted.{searched}
use Rattle.values.specs.declared.numbers.PairId.{PairId}
use Rattle.plan_core.specs.code.Numbers.{RisesFrom}
use Rattle.plan_core.specs.Numbers.{has}
use Rattle.plan_core.specs.Words.{pair_numbers}
use Rattle.storage_simulation.specs.Following.{AreOnce}
use Rattle.storage_simulation.proofs.FollowingLemmas.{at_place, false_of, has_head, once_more, or_right, place_of}

none_low : (b z : ℕ) (xs : List ℕ) → RisesFrom b xs → z < b → has xs z ≡ false
none_low b z [] h l = refl
none_low b z (x ∷ xs) h l =
    let low : b ≤ x = h.0 in
    ap (λ (t : Bool). t || has xs z) (false_of (nat_eq x z) (λ e. let same = eqb-true x z e in omega (arith, same, low, l))) ∙ none_low (suc x) z xs h.1 (omega arith)

pub rises_once : (b : ℕ) (xs : List ℕ) → RisesFrom b xs → AreOnce xs
rises_once b [] h = refl
rises_once b (x ∷ xs) h = once_more x xs (none_low (suc x) x xs h.1 (omega arith)) (rises_once (suc x) xs h.1)

pub rises_end : (b n : ℕ) (xs : List ℕ) → RisesFrom b xs → b ≤ n → ((x : ℕ) → has xs x ≡ true → x < n) → RisesFrom b (xs ++ n ∷ [])
rises_end b n [] h l low = (l, tt)
rises_end b n (x ∷ xs) h l low = (h.0, rises_end (suc x) n xs h.1 (let m : x < n = low x (has_head x xs) in omega arith) (λ z e. low z (or_right (nat_eq x z) (has xs z) e)))

rises_low : (b : ℕ) (xs : List ℕ) → RisesFrom b xs → (i : ℕ) → i < length xs → b ≤ get_or xs i 0
rises_low b [] h i l = absurd (omega arith)
rises_low b (x ∷ xs) h zero l = h.0
rises_low b (x ∷ xs) h (suc i) l = let low : suc x ≤ get_or xs i 0 = rises_low (suc x) xs h.1 i (omega arith) in let first : b ≤ x = h.0 in omega arith

rises_order : (b : ℕ) (xs : List ℕ) → RisesFrom b xs → (i j : ℕ) → i ≤ j → j < length xs → get_or xs i 0 ≤ get_or xs j 0
rises_order b [] h i j l k = absurd (omega arith)
rises_order b (x ∷ xs) h zero zero l k = omega arith
rises_order b (x ∷ xs) h zero (suc j) l k = let low : suc x ≤ get_or xs j 0 = rises_low (suc x) xs h.1 j (omega arith) in omega arith
rises_order b (x ∷ xs) h (suc i) zero l k = absurd (omega arith)
rises_order b (x ∷ xs) h (suc i) (suc j) l k = rises_order (suc x) xs h.1 i j (omega arith) (omega arith)

-- the same search among the numbers
number_at : (xs : List PairId) (k : ℕ) (d : PairId) → get_or (pair_numbers xs) k d.0 ≡ (get_or xs k d).0
number_at [] k d = refl
number_at (x ∷ xs) zero d = refl
number_at (x ∷ xs) (suc k) d = number_at xs k d

count_pairs_in : (xs : List PairId) → length (pair_numbers xs) ≡ length xs
count_pairs_in [] = refl
count_pairs_in (x ∷ xs) = ap suc (count_pairs_in xs)

pub numbers_searched : (xs : List PairId) (x : ℕ) (r : Result ℕ ℕ) → IsBinarySearchResult (λ (y : PairId). nat_cmp y.0 x) xs r → IsBinarySearchResult (λ y. nat_cmp y x) (pair_numbers xs) r
numbers_searched xs x (Ok i) h = λ d. ap (λ (n : ℕ). nat_cmp n x) (number_at xs i (record { 0 = d })) ∙ h (record { 0 = d })
numbers_searched xs x (Err i) h = λ up.
    let long = count_pairs_in xs in
    let parts = h (λ a b d le lt. subst (λ (n : ℕ). ordering_index (nat_cmp (get_or xs a d).0 x) ≤ ordering_index (nat_cmp n x)) (number_at xs b d) (subst (λ (n : ℕ). ordering_index (nat_cmp n x) ≤ ordering_index (nat_cmp (get_or (pair_numbers xs) b d.0) x)) (number_at xs a d) (up a b d.0 le (omega (arith, lt, long))))) in (
      λ k d a b. ap (λ (n : ℕ). nat_cmp n x) (number_at xs k (record { 0 = d })) ∙ parts.0 k (record { 0 = d }) a b,
      λ k d a b. ap (λ (n : ℕ). nat_cmp n x) (number_at xs k (record { 0 = d })) ∙ parts.1 k (record { 0 = d }) a (omega (arith, b, long)),
    )

pub found_has : (xs : List PairId) (x : ℕ) (r : Result ℕ ℕ) → RisesFrom 0 (pair_numbers xs) → IsBinarySearchResult (λ (y : PairId). nat_cmp y.0 x) xs r → is_ok r ≡ has (pair_numbers xs) x
found_has xs x (Ok i) rises found =
    let is = searched (pair_numbers xs) x (Ok i) (numbers_searched xs x (Ok i) found) (rises_order 0 (pair_numbers xs) rises) in
    sym (ap (has (pair_numbers xs)) (sym is.1) ∙ at_place (pair_numbers xs) i is.0)
found_has xs x (Err i) rises found =
    let is = searched (pair_numbers xs) x (Err i) (numbers_searched xs x (Err i) found) (rises_order 0 (pair_numbers xs) rises) in
    sym (false_of (has (pair_numbers xs) x) (λ h. none is (place_of (pair_numbers xs) x h)))
  where
    none : (i ≤ length (pair_numbers xs)) × ((k : ℕ) → k < i → get_or (pair_numbers xs) k 0 < x) × ((k : ℕ) → i ≤ k → k < length (pair_numbers xs) → x < get_or (pair_numbers xs) k 0) → (k : ℕ) × (k < length (pair_numbers xs)) × (get_or (pair_numbers xs) k 0 ≡ x) → ⊥
    none is at = by (cases_lt at.0 i)
      where
        by : (at.0 < i) ⊎ (i ≤ at.0) → ⊥
        by (inl l) = let m = is.1 at.0 l in let e = at.2 in omega (arith, m, e)
        by (inr l) = let m = is.2 at.0 l at.1 in let e = at.2 in omega (arith, m, e)
