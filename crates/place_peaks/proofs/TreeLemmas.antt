-- Additions to a front of a tree.
use Rattle.std.proofs.Common.{◌≡◌, ℕ, zero, suc, pos, ◌+◌, ◌-◌, neg_ℤ, List, [], ◌∷◌, take, All, Option, Some, None, refl, ap, ◌∙◌, arith}
use Rattle.std.specs.List.{AllByRecursion}
use Rattle.std.proofs.lemmas.Int.{ints}
use Rattle.std.proofs.lemmas.List.Elements.{All-from_recursion}
use Rattle.peak_tree.specs.Numbers.{StaysInRange, add_front, added}
use Rattle.place_peaks.specs.Tree.{AllFirst, CanFall, CanRise, front_changed, on}

rises : (by : ℕ) (x : Option ℕ) → CanRise by x → StaysInRange (pos by) x
rises by None h = tt
rises by (Some n) h = (omega (arith, ints, h), omega (arith, ints, h))

falls : (by : ℕ) (x : Option ℕ) → CanFall by x → StaysInRange (neg_ℤ (pos by)) x
falls by None h = tt
falls by (Some n) h = (omega (arith, ints, h.0), omega (arith, ints, h.1))

all_first : (P Q : Option ℕ → Type 0) → ((x : Option ℕ) → P x → Q x) → (n : ℕ) (xs : List (Option ℕ)) → AllFirst n P xs → AllByRecursion Q (take n xs)
all_first P Q f zero [] h = tt
all_first P Q f zero (x ∷ xs) h = tt
all_first P Q f (suc n) [] h = tt
all_first P Q f (suc n) (x ∷ xs) h = (f x h.0, all_first P Q f n xs h.1)

pub all_rise : (by n : ℕ) (xs : List (Option ℕ)) → AllFirst n (CanRise by) xs → All (StaysInRange (pos by)) (take n xs)
all_rise by n xs h = All-from_recursion (StaysInRange (pos by)) (take n xs) (all_first (CanRise by) (StaysInRange (pos by)) (rises by) n xs h)

pub all_fall : (by n : ℕ) (xs : List (Option ℕ)) → AllFirst n (CanFall by) xs → All (StaysInRange (neg_ℤ (pos by))) (take n xs)
all_fall by n xs h = All-from_recursion (StaysInRange (neg_ℤ (pos by))) (take n xs) (all_first (CanFall by) (StaysInRange (neg_ℤ (pos by))) (falls by) n xs h)

risen : (by : ℕ) (x : Option ℕ) → added (pos by) x ≡ on (λ n. n + by) x
risen by None = refl
risen by (Some n) = ap Some (omega (arith, ints))

fallen : (by : ℕ) (x : Option ℕ) → CanFall by x → added (neg_ℤ (pos by)) x ≡ on (λ n. n - by) x
fallen by None h = refl
fallen by (Some n) h = ap Some (omega (arith, ints, h.0))

pub add_rises : (by n : ℕ) (xs : List (Option ℕ)) → add_front n (pos by) xs ≡ front_changed n (λ m. m + by) xs
add_rises by zero xs = refl
add_rises by (suc n) [] = refl
add_rises by (suc n) (x ∷ xs) = ap (λ (y : Option ℕ). y ∷ add_front n (pos by) xs) (risen by x) ∙ ap (λ (ys : List (Option ℕ)). on (λ m. m + by) x ∷ ys) (add_rises by n xs)

pub add_falls : (by n : ℕ) (xs : List (Option ℕ)) → AllFirst n (CanFall by) xs → add_front n (neg_ℤ (pos by)) xs ≡ front_changed n (λ m. m - by) xs
add_falls by zero xs h = refl
add_falls by (suc n) [] h = refl
add_falls by (suc n) (x ∷ xs) h = ap (λ (y : Option ℕ). y ∷ add_front n (neg_ℤ (pos by)) xs) (fallen by x h.0) ∙ ap (λ (ys : List (Option ℕ)). on (λ m. m - by) x ∷ ys) (add_falls by n xs h.1)
