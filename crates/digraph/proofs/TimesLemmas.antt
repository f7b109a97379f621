-- How often a number stands in a list, and which of a list's numbers another lacks.
use Rattle.std.proofs.Common.{◌≡◌, ◌≢◌, ℕ, zero, suc, ◌+◌, ◌<◌, ◌≤◌, Bool, true, false, cond, ◌||◌, List, [], ◌∷◌, ◌++◌, length, take, get_or, refl, sym, ap, ◌∙◌, nat_eq, arith}
use Rattle.std.specs.List.{All}
use Rattle.std.proofs.lemmas.List.{take_more}
use Rattle.std.proofs.lemmas.List.Elements.{All-head, All-tail}
use Rattle.std.proofs.Math.Bool.{or-false, or-true}
use Rattle.std.proofs.lemmas.Bool.{eq-eqb, eqb-false, eqb-true, ne_eqb}
use Rattle.digraph.proofs.AdjacencyLemmas.{has_push}
use Rattle.digraph.specs.Adjacency.{has_node, times}
use Rattle.digraph.specs.code.Kahn.{missing}

-- how often, after a list
pub times_append : (a : ℕ) (xs ys : List ℕ) → times a (xs ++ ys) ≡ times a xs + times a ys
times_append a [] ys = omega arith
times_append a (x ∷ xs) ys = let h : times a (xs ++ ys) ≡ times a xs + times a ys = times_append a xs ys in omega (arith, h)

pub times_push : (a : ℕ) (xs : List ℕ) (j : ℕ) → times a (xs ++ j ∷ []) ≡ times a xs + cond {A = ℕ} (nat_eq j a) 1 0
times_push a xs j = let h : times a (xs ++ j ∷ []) ≡ times a xs + (cond {A = ℕ} (nat_eq j a) 1 0 + 0) = times_append a xs (j ∷ []) in omega (arith, h)

-- how often something stands in a front
pub times_front : (a n : ℕ) (xs : List ℕ) → times a (take n xs) ≤ times a xs
times_front a zero xs = omega arith
times_front a (suc n) [] = omega arith
times_front a (suc n) (x ∷ xs) = let h : times a (take n xs) ≤ times a xs = times_front a n xs in omega (arith, h)

pub absent : (a : ℕ) (xs : List ℕ) → times a xs ≡ 0 → has_node a xs ≡ false
absent a [] h = refl
absent a (x ∷ xs) h = by (nat_eq x a) h (λ e. absent a xs e)
  where
    by : (t : Bool) → cond t 1 0 + times a xs ≡ 0 → (times a xs ≡ 0 → has_node a xs ≡ false) → (t || has_node a xs) ≡ false
    by true e rest = absurd (let k : 1 + times a xs ≡ 0 = e in omega arith)
    by false e rest = rest (let k : 0 + times a xs ≡ 0 = e in omega arith)

pub present : (a : ℕ) (xs : List ℕ) → has_node a xs ≡ false → times a xs ≡ 0
present a [] h = refl
present a (x ∷ xs) h = by (nat_eq x a) h (λ e. present a xs e)
  where
    by : (t : Bool) → (t || has_node a xs) ≡ false → (has_node a xs ≡ false → times a xs ≡ 0) → cond t 1 0 + times a xs ≡ 0
    by true e rest = absurd cc
    by false e rest = let k : times a xs ≡ 0 = rest e in omega arith

-- the predecessors that aren't placed
pub missing_all : (ps : List ℕ) → missing [] ps ≡ length ps
missing_all [] = refl
missing_all (p ∷ ps) = let h : missing [] ps ≡ length ps = missing_all ps in omega (arith, h)

pub missing_push : (xs : List ℕ) (j : ℕ) (ps : List ℕ) → has_node j xs ≡ false → missing (xs ++ j ∷ []) ps + times j ps ≡ missing xs ps
missing_push xs j [] new = refl
missing_push xs j (p ∷ ps) new = by (nat_eq p j) refl (missing_push xs j ps new)
  where
    by : (t : Bool) → nat_eq p j ≡ t → missing (xs ++ j ∷ []) ps + times j ps ≡ missing xs ps
        → (cond {A = ℕ} (has_node p (xs ++ j ∷ [])) 0 1 + missing (xs ++ j ∷ []) ps) + (cond {A = ℕ} (nat_eq p j) 1 0 + times j ps) ≡ cond {A = ℕ} (has_node p xs) 0 1 + missing xs ps
    by true e rest =
        let same : p ≡ j = eqb-true p j e in
        let now : cond {A = ℕ} (has_node p (xs ++ j ∷ [])) 0 1 ≡ 0 = ap (λ (b : Bool). cond b 0 1) (has_push xs j p ∙ ap (λ (n : ℕ). has_node p xs || nat_eq j n) same ∙ ap (λ (b : Bool). has_node p xs || b) (eq-eqb j j refl) ∙ or-true (has_node p xs)) in
        let was : cond {A = ℕ} (has_node p xs) 0 1 ≡ 1 = ap (λ (b : Bool). cond b 0 1) (ap (λ (n : ℕ). has_node n xs) same ∙ new) in
        let one : cond {A = ℕ} (nat_eq p j) 1 0 ≡ 1 = ap (λ (b : Bool). cond b 1 0) e in
        omega (arith, now, was, one, rest)
    by false e rest =
        let now : cond {A = ℕ} (has_node p (xs ++ j ∷ [])) 0 1 ≡ cond {A = ℕ} (has_node p xs) 0 1 = ap (λ (b : Bool). cond b 0 1) (has_push xs j p ∙ ap (λ (b : Bool). has_node p xs || b) (ne_eqb j p (λ k. eqb-false p j e (sym k))) ∙ or-false (has_node p xs)) in
        let none : cond {A = ℕ} (nat_eq p j) 1 0 ≡ 0 = ap (λ (b : Bool). cond b 1 0) e in
        omega (arith, now, none, rest)

pub missing_none : (xs ps : List ℕ) (a : ℕ) → missing xs ps ≡ 0 → has_node a ps ≡ true → has_node a xs ≡ true
missing_none xs [] a none h = absurd cc
missing_none xs (p ∷ ps) a none h = by (has_node p xs) refl (nat_eq p a) refl (λ e f. missing_none xs ps a e f)
  where
    by : (t : Bool) → has_node p xs ≡ t → (u : Bool) → nat_eq p a ≡ u → (missing xs ps ≡ 0 → has_node a ps ≡ true → has_node a xs ≡ true) → has_node a xs ≡ true
    by true e true f rest = ap (λ (n : ℕ). has_node n xs) (sym (eqb-true p a f)) ∙ e
    by true e false f rest =
        let zero_in : cond {A = ℕ} (has_node p xs) 0 1 ≡ 0 = ap (λ (b : Bool). cond b 0 1) e in
        rest (omega (arith, none, zero_in)) (sym (ap (λ (b : Bool). b || has_node a ps) f) ∙ h)
    by false e u f rest = absurd (let one : cond {A = ℕ} (has_node p xs) 0 1 ≡ 1 = ap (λ (b : Bool). cond b 0 1) e in omega (arith, none, one))

pub missing_some : (xs ps : List ℕ) → missing xs ps ≢ 0 → (a : ℕ) × (has_node a ps ≡ true) × (has_node a xs ≡ false)
missing_some xs [] some = absurd (some refl)
missing_some xs (p ∷ ps) some = by (has_node p xs) refl (λ h. missing_some xs ps h)
  where
    by : (t : Bool) → has_node p xs ≡ t → (missing xs ps ≢ 0 → (a : ℕ) × (has_node a ps ≡ true) × (has_node a xs ≡ false)) → (a : ℕ) × (has_node a (p ∷ ps) ≡ true) × (has_node a xs ≡ false)
    by true e rest =
        let zero_in : cond {A = ℕ} (has_node p xs) 0 1 ≡ 0 = ap (λ (b : Bool). cond b 0 1) e in
        let later = rest (λ none. some (omega (arith, zero_in, none))) in
        (later.0, ap (λ (b : Bool). nat_eq p later.0 || b) later.1 ∙ or-true (nat_eq p later.0), later.2)
    by false e rest = (p, ap (λ (b : Bool). b || has_node p ps) (eq-eqb p p refl), e)

-- a node that stands once isn't in the front before it
pub new_at : (xs : List ℕ) (i : ℕ) (j : ℕ) → i < length xs → get_or xs i j ≡ j → times j xs ≤ 1 → has_node j (take i xs) ≡ false
new_at xs i j h is once =
    let front : times j (take (i + 1) xs) ≡ times j (take i xs) + 1 =
    ap (times j) (take_more xs i j h ∙ ap (λ (k : ℕ). take i xs ++ k ∷ []) is) ∙ times_push j (take i xs) j ∙ ap (λ (t : Bool). times j (take i xs) + cond {A = ℕ} t 1 0) (eq-eqb j j refl) in
    absent j (take i xs) (omega (arith, front, times_front j (i + 1) xs, once))

-- more nodes whose predecessors all come before
pub has_front : (a n : ℕ) (xs : List ℕ) → has_node a (take n xs) ≡ true → has_node a xs ≡ true
has_front a zero xs h = absurd cc
has_front a (suc n) [] h = absurd cc
has_front a (suc n) (x ∷ xs) h = by (nat_eq x a) h (λ e. has_front a n xs e)
  where
    by : (t : Bool) → (t || has_node a (take n xs)) ≡ true → (has_node a (take n xs) ≡ true → has_node a xs ≡ true) → (t || has_node a xs) ≡ true
    by true e rest = refl
    by false e rest = rest e

pub stands_once : (xs : List ℕ) (i : ℕ) (j : ℕ) → i < length xs → get_or xs i j ≡ j → 1 ≤ times j xs
stands_once xs i j h is =
    let front : times j (take (i + 1) xs) ≡ times j (take i xs) + 1 =
    ap (times j) (take_more xs i j h ∙ ap (λ (k : ℕ). take i xs ++ k ∷ []) is) ∙ times_push j (take i xs) j ∙ ap (λ (t : Bool). times j (take i xs) + cond {A = ℕ} t 1 0) (eq-eqb j j refl) in
    omega (arith, front, times_front j (i + 1) xs)

pub all_has : (n : ℕ) (js : List ℕ) (a : ℕ) → All (λ (j : ℕ). j < n) js → has_node a js ≡ true → a < n
all_has n [] a all h = absurd cc
all_has n (j ∷ js) a all h = by (nat_eq j a) refl h (λ e. all_has n js a (All-tail (λ (j : ℕ). j < n) j js all) e)
  where
    by : (t : Bool) → nat_eq j a ≡ t → (t || has_node a js) ≡ true → (has_node a js ≡ true → a < n) → a < n
    by true f e rest = let low : j < n = All-head (λ (j : ℕ). j < n) j js all in let s : j ≡ a = eqb-true j a f in omega arith
    by false f e rest = rest e
