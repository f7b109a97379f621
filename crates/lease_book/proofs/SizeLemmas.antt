-- Sizes of the first goods.
use Rattle.std.proofs.Common.{◌≡◌, ℕ, zero, suc, ◌+◌, ◌≤◌, ◌<◌, true, false, eqb, eqb-true, List, [], ◌∷◌, length, drop, take, get_or, refl, sym, ap, subst, ◌∙◌, arith}
use Rattle.std.proofs.lemmas.List.{take_more}
use Rattle.std.proofs.lemmas.List.Folds.{list_any-append}
use Rattle.plan_core.specs.declared.plan.Plan.{Plan}
use Rattle.plan_core.specs.Numbers.{has}
use Rattle.storage_simulation.specs.Goods.{good_size}
use Rattle.lease_rules.specs.Legal.{AreDeclared, AreOfFirst}
use Rattle.place_peaks.proofs.Offered.{or_case}

pub first_short : (p : Plan) (gs ns : List ℕ) → AreOfFirst p gs ns → length ns ≤ length gs
first_short p [] [] h = omega arith
first_short p (g ∷ gs) [] h = omega arith
first_short p [] (n ∷ ns) h = absurd h
first_short p (g ∷ gs) (n ∷ ns) h = let l = first_short p gs ns h.1 in omega (arith, l)

pub declared_of : (p : Plan) (gs ns : List ℕ) → length ns ≡ length gs → AreOfFirst p gs ns → AreDeclared p gs ns
declared_of p [] [] e h = tt
declared_of p (g ∷ gs) [] e h = absurd (omega (arith, e))
declared_of p [] (n ∷ ns) e h = absurd h
declared_of p (g ∷ gs) (n ∷ ns) e h = (h.0, declared_of p gs ns (omega (arith, e)) h.1)

pub first_of_declared : (p : Plan) (gs ns : List ℕ) → AreDeclared p gs ns → AreOfFirst p gs ns
first_of_declared p [] [] h = tt
first_of_declared p (g ∷ gs) [] h = tt
first_of_declared p [] (n ∷ ns) h = absurd h
first_of_declared p (g ∷ gs) (n ∷ ns) h = (h.0, first_of_declared p gs ns h.1)

-- the sizes after the first k decide
abbrev pub FirstLeft : Plan → List ℕ → List ℕ → ℕ → Type 0
FirstLeft p gs ns k = (AreOfFirst p (drop k gs) (drop k ns) → AreOfFirst p gs ns) × (AreOfFirst p gs ns → AreOfFirst p (drop k gs) (drop k ns))

pub left_start : (p : Plan) (gs ns : List ℕ) → FirstLeft p gs ns 0
left_start p gs ns = (λ h. subst (λ (xs : List ℕ). AreOfFirst p xs ns) (none gs) (subst (λ (xs : List ℕ). AreOfFirst p (drop 0 gs) xs) (none ns) h), λ h. subst (λ (xs : List ℕ). AreOfFirst p xs (drop 0 ns)) (sym (none gs)) (subst (λ (xs : List ℕ). AreOfFirst p gs xs) (sym (none ns)) h))
  where
    none : (ys : List ℕ) → drop 0 ys ≡ ys
    none [] = refl
    none (y ∷ ys) = refl

one_first : (p : Plan) (gs ns : List ℕ) (k : ℕ) → k < length ns → k < length gs
    → (get_or ns k 0 ≤ good_size p (get_or gs k 0) → AreOfFirst p (drop (suc k) gs) (drop (suc k) ns) → AreOfFirst p (drop k gs) (drop k ns)) × (AreOfFirst p (drop k gs) (drop k ns) → (get_or ns k 0 ≤ good_size p (get_or gs k 0)) × AreOfFirst p (drop (suc k) gs) (drop (suc k) ns))
one_first p [] ns k l m = absurd (omega arith)
one_first p (g ∷ gs) [] k l m = absurd (omega arith)
one_first p (g ∷ gs) (n ∷ ns) zero l m = (λ h r. (h, subst (λ (xs : List ℕ). AreOfFirst p xs ns) (none gs) (subst (λ (xs : List ℕ). AreOfFirst p (drop 0 gs) xs) (none ns) r)), λ h. (h.0, subst (λ (xs : List ℕ). AreOfFirst p xs (drop 0 ns)) (sym (none gs)) (subst (λ (xs : List ℕ). AreOfFirst p gs xs) (sym (none ns)) h.1)))
  where
    none : (ys : List ℕ) → drop 0 ys ≡ ys
    none [] = refl
    none (y ∷ ys) = refl
one_first p (g ∷ gs) (n ∷ ns) (suc k) l m = one_first p gs ns k (omega arith) (omega arith)

pub left_more : (p : Plan) (gs ns : List ℕ) (k g n : ℕ) → k < length ns → length ns ≤ length gs → g ≡ get_or gs k 0 → n ≡ get_or ns k 0 → n ≤ good_size p g → FirstLeft p gs ns k → FirstLeft p gs ns (k + 1)
left_more p gs ns k g n l m at is small left =
    let one = one_first p gs ns k l (omega arith) in
    let e : suc k ≡ k + 1 = omega arith in
    let size : get_or ns k 0 ≤ good_size p (get_or gs k 0) = subst (λ (x : ℕ). x ≤ good_size p (get_or gs k 0)) is (subst (λ (x : ℕ). n ≤ good_size p x) at small) in
    subst (FirstLeft p gs ns) e (λ h. left.0 (one.0 size h), λ h. (one.1 (left.1 h)).1)

pub left_fails : (p : Plan) (gs ns : List ℕ) (k g n : ℕ) → k < length ns → length ns ≤ length gs → g ≡ get_or gs k 0 → n ≡ get_or ns k 0 → good_size p g < n → FirstLeft p gs ns k → AreOfFirst p gs ns → ⊥
left_fails p gs ns k g n l m at is large left h =
    let one = one_first p gs ns k l (omega arith) in
    let size = (one.1 (left.1 h)).0 in
    let same : good_size p g ≡ good_size p (get_or gs k 0) = ap (good_size p) at in
    omega (arith, size, same, is, large)

pub left_end : (p : Plan) (gs ns : List ℕ) (k : ℕ) → k ≡ length ns → FirstLeft p gs ns k → AreOfFirst p gs ns
left_end p gs ns k end left = left.0 (subst (λ (xs : List ℕ). AreOfFirst p (drop k gs) xs) (sym (ap (λ (n : ℕ). drop n ns) end ∙ gone ns)) tt)
  where
    gone : (ys : List ℕ) → drop (length ys) ys ≡ []
    gone [] = refl
    gone (y ∷ ys) = gone ys

-- one size for all goods
pub all_more : (p : Plan) (gs : List ℕ) (k g n : ℕ) → k < length gs → g ≡ get_or gs k 0 → n ≤ good_size p g → ((x : ℕ) → has (take k gs) x ≡ true → n ≤ good_size p x) → (x : ℕ) → has (take (k + 1) gs) x ≡ true → n ≤ good_size p x
all_more p gs k g n l at small so_far x h =
    or_case (has (take k gs) x) (has (get_or gs k 0 ∷ []) x) (sym (list_any-append (λ y. eqb y x) (take k gs) (get_or gs k 0 ∷ [])) ∙ ap (λ (xs : List ℕ). has xs x) (sym (take_more gs k 0 l)) ∙ h)
    (so_far x)
    (λ last. or_case (eqb (get_or gs k 0) x) false last (λ e. subst (λ (y : ℕ). n ≤ good_size p y) (at ∙ eqb-true (get_or gs k 0) x e) small) (λ e. absurd cc))

pub all_end : (p : Plan) (gs : List ℕ) (k n : ℕ) → k ≡ length gs → ((x : ℕ) → has (take k gs) x ≡ true → n ≤ good_size p x) → (x : ℕ) → has gs x ≡ true → n ≤ good_size p x
all_end p gs k n end so_far x h = so_far x (ap (λ (xs : List ℕ). has xs x) (ap (λ (i : ℕ). take i gs) end ∙ take_all gs) ∙ h)
  where
    take_all : (xs : List ℕ) → take (length xs) xs ≡ xs
    take_all [] = refl
    take_all (y ∷ ys) = ap (λ (l : List ℕ). y ∷ l) (take_all ys)
