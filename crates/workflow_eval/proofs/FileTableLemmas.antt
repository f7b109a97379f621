-- Looking up one file after the other.
use Rattle.std.proofs.Common.{◌≡◌, ℕ, suc, ◌+◌, ◌-◌, ◌<◌, ◌≤◌, List, [], ◌∷◌, ◌++◌, length, take, drop, get_or, refl, sym, ap, ◌∙◌, length-append, drop-cons, arith}
use Rattle.std.proofs.lemmas.List.{take_more}
use Rattle.workflow_eval.specs.FileTable.{placed}
use Rattle.std.specs.Prelude.{Option, Some, None, slice_set}

-- what was found before, and what is still looked up
abbrev pub with_front : List (List ℕ) → Option (List (List ℕ)) → Option (List (List ℕ))
with_front front None = None
with_front front (Some vs) = Some (front ++ vs)

-- two lists with one last element each
pub snoc_same : {A : Type 0} (xs ys : List A) (x y : A) → xs ++ x ∷ [] ≡ ys ++ y ∷ [] → (xs ≡ ys) × (x ≡ y)
snoc_same [] [] x y e = (refl, cc)
snoc_same [] (w ∷ []) x y e = absurd (let n : 1 ≡ 2 = ap length e in omega arith)
snoc_same [] (w ∷ u ∷ ys) x y e = absurd (let n : 1 ≡ length (w ∷ u ∷ ys ++ y ∷ []) = ap length e in omega (arith, n))
snoc_same (z ∷ xs) [] x y e = absurd (let n : length (z ∷ xs ++ x ∷ []) ≡ 1 = ap length e in omega (arith, length-append xs (x ∷ []), n))
snoc_same (z ∷ xs) (w ∷ ys) x y e =
    let heads : z ≡ w = cc in
    let tails : xs ++ x ∷ [] ≡ ys ++ y ∷ [] = cc in
    let rest = snoc_same xs ys x y tails in
    (rw (heads, rest.0) refl, rest.1)

-- the last of a front
pub split_last : {A : Type 0} (vs new : List A) (a : ℕ) (v : A) → 0 < a → a ≤ length vs → take a vs ≡ new ++ v ∷ [] → (new ≡ take (a - 1) vs) × (v ≡ get_or vs (a - 1) v)
split_last {A} vs new a v h k e =
    let one_less : a ≡ (a - 1) + 1 = omega arith in
    let cut : take a vs ≡ take (a - 1) vs ++ get_or vs (a - 1) v ∷ [] = ap (λ (n : ℕ). take n vs) one_less ∙ take_more vs (a - 1) v (omega arith) in
    snoc_same new (take (a - 1) vs) v (get_or vs (a - 1) v) (sym e ∙ cut)

-- one element more of the rest
uncut : {A : Type 0} (xs : List A) (a : ℕ) (d : A) → 0 < a → a ≤ length xs → drop (a - 1) xs ≡ get_or xs (a - 1) d ∷ drop a xs
uncut xs a d h k =
    let one_less : suc (a - 1) ≡ a = omega arith in
    drop-cons xs (a - 1) d (omega arith) ∙ ap (λ (n : ℕ). get_or xs (a - 1) d ∷ drop n xs) one_less

-- one output more, counted from the last
pub place_more : (os : List ℕ) (vs : List (List ℕ)) (a o : ℕ) (v : List ℕ) (table first : List (Option (List ℕ))) → 0 < a → a ≤ length os → length os ≡ length vs → get_or os (a - 1) o ≡ o → v ≡ get_or vs (a - 1) v
    → table ≡ placed (drop a os) (drop a vs) first → slice_set table o (Some v) ≡ placed (drop (a - 1) os) (drop (a - 1) vs) first
place_more os vs a o v table first h k same is_output is so_far =
    ap (λ (t : List (Option (List ℕ))). slice_set t o (Some v)) so_far
    ∙ ap (λ (w : List ℕ). slice_set (placed (drop a os) (drop a vs) first) o (Some w)) is
    ∙ ap (λ (p : ℕ). slice_set (placed (drop a os) (drop a vs) first) p (Some (get_or vs (a - 1) v))) (sym is_output)
    ∙ sym (ap (λ (x : List ℕ). placed x (drop (a - 1) vs) first) (uncut os a o h k) ∙ ap (λ (y : List (List ℕ)). placed (get_or os (a - 1) o ∷ drop a os) y first) (uncut vs a v h (omega arith)))
