-- Items of one worker, and journals that grow.
use Rattle.std.proofs.Common.{◌≡◌, ◌≢◌, ℕ, ◌==◌, List, [], ◌∷◌, ◌++◌, length, Bool, true, false, cond, refl, sym, ap, ◌∙◌, subst, ⊎_elim, arith, length-append}
use Rattle.std.proofs.lemmas.List.Elements.{filter-append}
use Rattle.std.proofs.lemmas.List.{append-nil}
use Rattle.std.proofs.lemmas.Bool.{eq-eqb, eqb-true}
use mathlib.Core.List.{IsPrefix}
use Rattle.ruled_lock.specs.Chronicle.{AddsAtMostOne, GrowsAlike, items_of}
use Rattle.ruled_lock.proofs.ListLemmas.{prefix_self}

-- what follows a list begins with it
pub adds_prefix : {I : Type 0} (author : I → ℕ) (k : ℕ) (xs ys : List I) → AddsAtMostOne author k xs ys → IsPrefix xs ys
adds_prefix author k xs ys f =
    ⊎_elim
    (λ (same : ys ≡ xs). subst (IsPrefix xs) (sym same) (prefix_self xs))
    (λ (more : (e : _) × (author e ≡ k) × (ys ≡ xs ++ e ∷ [])). (more.0 ∷ [], sym more.2))
    f

item_other : {I : Type 0} (author : I → ℕ) (k : ℕ) (e : I) (b : Bool) → (author e == k) ≡ b → b ≡ false → items_of author k (e ∷ []) ≡ []
item_other author k e b is off = ap (λ c. cond c (e ∷ []) []) (is ∙ off)

pub not_true : (b : Bool) → (b ≡ true → ⊥) → b ≡ false
not_true true h = absurd (h refl)
not_true false h = refl

-- and has no more items of another number
pub adds_other : {I : Type 0} (author : I → ℕ) (k j : ℕ) (xs ys : List I) → AddsAtMostOne author k xs ys → j ≢ k → items_of author j ys ≡ items_of author j xs
adds_other author k j xs ys f apart =
    ⊎_elim
    (λ (same : ys ≡ xs). ap (items_of author j) same)
    (λ (more : (e : _) × (author e ≡ k) × (ys ≡ xs ++ e ∷ [])).
    ap (items_of author j) more.2
    ∙ (filter-append (λ e. author e == j) xs (more.0 ∷ [])
    ∙ (ap (λ l. items_of author j xs ++ l) (item_other author j more.0 (author more.0 == j) refl (not_true (author more.0 == j) (λ is. apart (sym (eqb-true (author more.0) j is) ∙ more.1))))
    ∙ append-nil (items_of author j xs))))
    f

-- no items in the whole, none in a beginning
pub items_prefix_none : {I : Type 0} (author : I → ℕ) (k : ℕ) (xs ys : List I) → IsPrefix xs ys → items_of author k ys ≡ [] → items_of author k xs ≡ []
items_prefix_none author k xs ys p none =
    let both : items_of author k xs ++ items_of author k p.0 ≡ [] = sym (filter-append (λ e. author e == k) xs p.0) ∙ (ap (items_of author k) p.1 ∙ none) in first_nil (items_of author k xs) (items_of author k p.0) both
  where
    first_nil : {I : Type 0} (xs ys : List I) → xs ++ ys ≡ [] → xs ≡ []
    first_nil [] ys e = refl
    first_nil (x ∷ xs) ys e = absurd (cc e)

append_none : {I : Type 0} (m a b : List I) → m ≡ (m ++ a) ++ b → a ≡ []
append_none m [] b e = refl
append_none m (x ∷ a) b e =
    let l : length m ≡ length ((m ++ x ∷ a) ++ b) = ap length e in
    let l1 = length-append (m ++ x ∷ a) b in
    let l2 = length-append m (x ∷ a) in absurd (omega arith)

-- the items of a number in a list between two lists that have the same ones
pub items_squeezed : {I : Type 0} (author : I → ℕ) (k : ℕ) (xs ys zs m : List I) → IsPrefix xs ys → IsPrefix ys zs → items_of author k xs ≡ m → items_of author k zs ≡ m → items_of author k ys ≡ m
items_squeezed author k xs ys zs m p q low high =
    let a : items_of author k ys ≡ m ++ items_of author k p.0 = ap (items_of author k) (sym p.1) ∙ (filter-append (λ e. author e == k) xs p.0 ∙ ap (λ l. l ++ items_of author k p.0) low) in
    let b : m ≡ (m ++ items_of author k p.0) ++ items_of author k q.0 = sym high ∙ (ap (items_of author k) (sym q.1) ∙ (filter-append (λ e. author e == k) ys q.0 ∙ ap (λ l. l ++ items_of author k q.0) a)) in
    a ∙ (ap (λ l. m ++ l) (append_none m (items_of author k p.0) (items_of author k q.0) b) ∙ append-nil m)

snoc_last : {A : Type 0} (xs : List A) (a b : A) → xs ++ a ∷ [] ≡ xs ++ b ∷ [] → a ≡ b
snoc_last [] a b e = cc e
snoc_last (x ∷ xs) a b e = snoc_last xs a b (cc e)

no_longer : {A : Type 0} (xs : List A) (a : A) → xs ≡ xs ++ a ∷ [] → ⊥
no_longer xs a e = let l : length xs ≡ length (xs ++ a ∷ []) = ap length e in let m = length-append xs (a ∷ []) in omega arith

pub grows_alike : {I : Type 0} (author : I → ℕ) (k : ℕ) (xs ys m : List I) → AddsAtMostOne author k xs ys → items_of author k xs ≡ m → GrowsAlike xs ys m (items_of author k ys)
grows_alike {I} author k xs ys m f own = (
  (λ same. ap (items_of author k) same ∙ own),
  λ e more.
      let its : author e ≡ k = ⊎_elim (λ (h : ys ≡ xs). absurd (no_longer xs e (sym h ∙ more))) (λ (h : (x : I) × (author x ≡ k) × (ys ≡ xs ++ x ∷ [])). ap author (sym (snoc_last xs h.0 e (sym h.2 ∙ more))) ∙ h.1) f in
      let one : items_of author k (e ∷ []) ≡ e ∷ [] = ap (λ b. cond b (e ∷ []) []) (eq-eqb (author e) k its) in
      ap (items_of author k) more ∙ (filter-append (λ x. author x == k) xs (e ∷ []) ∙ (λ i. own i ++ one i)),
)
