-- What the definitions on lists come to.
use Rattle.std.proofs.Common.{◌≡◌, ℕ, ℤ, zero, suc, ◌-◌, ◌≤◌, ◌<◌, ◌⊎◌, inl, inr, max, List, [], ◌∷◌, ◌++◌, map, replicate, length, get_or, Option, Some, None, refl, sym, ap, ◌∙◌, arith, length-append}
use Rattle.std.proofs.lemmas.Bool.{cases_lt}
use Rattle.std.proofs.lemmas.List.{length-map, length-replicate}
use Rattle.peak_tree.specs.Numbers.{greater, greatest, IsGreatest, added, add_front, filled}

same_number : (m n : ℕ) → Some m ≡ Some n → m ≡ n
same_number m n e = cc

no_number : (v : ℕ) → None ≡ Some v → ⊥
no_number v e = cc

bounded : (x r : Option ℕ) (xs : List (Option ℕ)) (top : ℕ) → ((v : ℕ) → x ≡ Some v → v ≤ top) → ((i v : ℕ) → get_or xs i None ≡ Some v → v ≤ top) → (i v : ℕ) → get_or (x ∷ xs) i None ≡ Some v → v ≤ top
bounded x r xs top first rest zero v here = first v here
bounded x r xs top first rest (suc i) v here = rest i v here

none_live : (x : Option ℕ) (xs : List (Option ℕ)) → x ≡ None → ((i : ℕ) → get_or xs i None ≡ None) → (i : ℕ) → get_or (x ∷ xs) i None ≡ None
none_live x xs none rest zero = none
none_live x xs none rest (suc i) = rest i

step : (x r : Option ℕ) (xs : List (Option ℕ)) → IsGreatest xs r → IsGreatest (x ∷ xs) (greater x r)
step None None xs rest = none_live None xs refl rest
step None (Some n) xs rest = ((suc rest.0.0, rest.0.1), bounded None (Some n) xs n (λ v here. absurd (no_number v here)) rest.1)
step (Some m) None xs rest =
    ((0, refl), bounded (Some m) None xs m (λ v here. let e = same_number m v here in omega (arith, e)) (λ i v here. absurd (no_number v (sym (rest i) ∙ here))))
step (Some m) (Some n) xs rest =
    (there (cases_lt m n), bounded (Some m) (Some n) xs (max m n) (λ v here. let e = same_number m v here in omega (arith, e)) (λ i v here. let le = rest.1 i v here in omega (arith, le)))
  where
    there : ((m < n) ⊎ (n ≤ m)) → (i : ℕ) × (get_or (Some m ∷ xs) i None ≡ Some (max m n))
    there (inl less) = (suc rest.0.0, rest.0.1 ∙ ap Some (let e : n ≡ max m n = omega (arith, less) in e))
    there (inr le) = (0, ap Some (let e : m ≡ max m n = omega (arith, le) in e))

none_past : (i : ℕ) → get_or {A = Option ℕ} [] i None ≡ None
none_past zero = refl
none_past (suc i) = refl

pub greatest_is : (xs : List (Option ℕ)) → IsGreatest xs (greatest xs)
greatest_is [] = none_past
greatest_is (x ∷ xs) = step x (greatest xs) xs (greatest_is xs)

pub length-add_front : (count : ℕ) (delta : ℤ) (xs : List (Option ℕ)) → length (add_front count delta xs) ≡ length xs
length-add_front zero delta xs = refl
length-add_front (suc count) delta [] = refl
length-add_front (suc count) delta (x ∷ xs) = ap suc (length-add_front count delta xs)

pub add_front-first : (count : ℕ) (delta : ℤ) (xs : List (Option ℕ)) (i : ℕ) → i < count → get_or (add_front count delta xs) i None ≡ added delta (get_or xs i None)
add_front-first zero delta xs i less = absurd (omega (arith, less))
add_front-first (suc count) delta [] zero less = refl
add_front-first (suc count) delta [] (suc i) less = refl
add_front-first (suc count) delta (x ∷ xs) zero less = refl
add_front-first (suc count) delta (x ∷ xs) (suc i) less = add_front-first count delta xs i (omega (arith, less))

pub add_front-rest : (count : ℕ) (delta : ℤ) (xs : List (Option ℕ)) (i : ℕ) → count ≤ i → get_or (add_front count delta xs) i None ≡ get_or xs i None
add_front-rest zero delta xs i le = refl
add_front-rest (suc count) delta [] i le = refl
add_front-rest (suc count) delta (x ∷ xs) zero le = absurd (omega (arith, le))
add_front-rest (suc count) delta (x ∷ xs) (suc i) le = add_front-rest count delta xs i (omega (arith, le))

pub length-filled : (ns : List ℕ) (count : ℕ) → length ns ≤ count → length (filled ns count) ≡ count
length-filled ns count few =
    let none : Option ℕ = None in
    omega (arith, length-append (map Some ns) (replicate (count - length ns) none), length-map ns (λ (n : ℕ). Some n), length-replicate (count - length ns) none, few)

pub filled-first : (ns : List ℕ) (count i : ℕ) → i < length ns → get_or (filled ns count) i None ≡ Some (get_or ns i 0)
filled-first ns count i less = first ns i (count - length ns) less
  where
    first : (ns : List ℕ) (i more : ℕ) → i < length ns → get_or (map Some ns ++ replicate more None) i None ≡ Some (get_or ns i 0)
    first [] i more less = absurd (omega (arith, less))
    first (n ∷ ns) zero more less = refl
    first (n ∷ ns) (suc i) more less = first ns i more (omega (arith, less))

pub filled-rest : (ns : List ℕ) (count i : ℕ) → length ns ≤ i → get_or (filled ns count) i None ≡ None
filled-rest ns count i le = rest ns i (count - length ns) le
  where
    nothing : (more i : ℕ) → get_or {A = Option ℕ} (replicate more None) i None ≡ None
    nothing zero i = none_past i
    nothing (suc more) zero = refl
    nothing (suc more) (suc i) = nothing more i

    rest : (ns : List ℕ) (i more : ℕ) → length ns ≤ i → get_or (map Some ns ++ replicate more None) i None ≡ None
    rest [] i more le = nothing more i
    rest (n ∷ ns) zero more le = absurd (omega (arith, le))
    rest (n ∷ ns) (suc i) more le = rest ns i more (omega (arith, le))
