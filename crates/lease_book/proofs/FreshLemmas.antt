-- The search for the task of a fresh order.
use Rattle.std.proofs.Common.{◌≡◌, Bool, false, cond, ℕ, zero, suc, ◌+◌, ◌-◌, ◌<◌, inl, inr, List, [], ◌∷◌, length, drop, get_or, refl, sym, ap, subst, ◌∙◌, arith, true, eqb}
use Rattle.std.specs.Prelude.{Some, None, filter, is_some, ◌⊎◌}
use Rattle.place_peaks.proofs.Offered.{by_bool, has_head, or_right}
use Rattle.lease_rules.specs.Choice.{IsCandidate, IsFreshAmong}
use Rattle.lease_rules.specs.State.{State, order_with}
use Rattle.plan_core.specs.declared.plan.Plan.{Plan}
use Rattle.plan_core.specs.Numbers.{has}

-- what is left to look through after k tasks of the line, with n candidates more
abbrev pub FreshLeft : Plan → State → (ℕ → Bool) → List ℕ → ℕ → ℕ → Type 0
FreshLeft p s left line n k = (t : ℕ) → (IsFreshAmong p s n (filter left (drop k line)) t → IsFreshAmong p s 4 s.rest t) × (IsFreshAmong p s 4 s.rest t → IsFreshAmong p s n (filter left (drop k line)) t)

pub fresh_at_first : (p : Plan) (s : State) (left : ℕ → Bool) (line : List ℕ) → s.rest ≡ filter left line → FreshLeft p s left line 4 0
fresh_at_first p s left line is t = (λ h. subst (λ (xs : List ℕ). IsFreshAmong p s 4 xs t) all h, λ h. subst (λ (xs : List ℕ). IsFreshAmong p s 4 xs t) (sym all) h)
  where
    start : (xs : List ℕ) → drop 0 xs ≡ xs
    start [] = refl
    start (x ∷ xs) = refl

    all : filter left (drop 0 line) ≡ s.rest
    all = ap (filter left) (start line) ∙ sym is

-- a task of the line that is left is in rest
in_filter : (left : ℕ → Bool) (xs : List ℕ) (k : ℕ) → k < length xs → left (get_or xs k 0) ≡ true → has (filter left xs) (get_or xs k 0) ≡ true
in_filter left [] k l on = absurd (omega arith)
in_filter left (x ∷ xs) zero l on = subst (λ (ys : List ℕ). has ys x ≡ true) (sym (ap (λ (b : Bool). cond b (x ∷ filter left xs) (filter left xs)) on)) (has_head x (filter left xs))
in_filter left (x ∷ xs) (suc k) l on = by_test (left x) (in_filter left xs k (omega (arith, l)) on)
  where
    by_test : (b : Bool) → has (filter left xs) (get_or xs k 0) ≡ true → has (cond b (x ∷ filter left xs) (filter left xs)) (get_or xs k 0) ≡ true
    by_test true less = or_right (eqb x (get_or xs k 0)) (has (filter left xs) (get_or xs k 0)) less
    by_test false less = less

pub left_in : (s : State) (left : ℕ → Bool) (line : List ℕ) (k : ℕ) → s.rest ≡ filter left line → k < length line → left (get_or line k 0) ≡ true → has s.rest (get_or line k 0) ≡ true
left_in s left line k is l on = subst (λ (xs : List ℕ). has xs (get_or line k 0) ≡ true) (sym is) (in_filter left line k l on)

drop_at : (xs : List ℕ) (k : ℕ) → k < length xs → drop k xs ≡ get_or xs k 0 ∷ drop (k + 1) xs
drop_at xs k l = at_place xs k l ∙ ap (λ (n : ℕ). get_or xs k 0 ∷ drop n xs) (let e : suc k ≡ k + 1 = omega arith in e)
  where
    at_place : (ys : List ℕ) (i : ℕ) → i < length ys → drop i ys ≡ get_or ys i 0 ∷ drop (suc i) ys
    at_place [] i m = absurd (omega arith)
    at_place (y ∷ ys) zero m = refl
    at_place (y ∷ ys) (suc i) m = at_place ys i (omega arith)

left_at : (left : ℕ → Bool) (line : List ℕ) (k : ℕ) → k < length line → filter left (drop k line) ≡ cond (left (get_or line k 0)) (get_or line k 0 ∷ filter left (drop (k + 1) line)) (filter left (drop (k + 1) line))
left_at left line k l = ap (filter left) (drop_at line k l)

-- one task more that is left
fresh_cons : (p : Plan) (s : State) (left : ℕ → Bool) (line : List ℕ) (n k : ℕ) → k < length line → left (get_or line k 0) ≡ true → FreshLeft p s left line n k
    → (t : ℕ) → (IsFreshAmong p s n (get_or line k 0 ∷ filter left (drop (k + 1) line)) t → IsFreshAmong p s 4 s.rest t) × (IsFreshAmong p s 4 s.rest t → IsFreshAmong p s n (get_or line k 0 ∷ filter left (drop (k + 1) line)) t)
fresh_cons p s left line n k l on so_far t =
    subst (λ (xs : List ℕ). (IsFreshAmong p s n xs t → IsFreshAmong p s 4 s.rest t) × (IsFreshAmong p s 4 s.rest t → IsFreshAmong p s n xs t))
    (left_at left line k l ∙ ap (λ (b : Bool). cond b (get_or line k 0 ∷ filter left (drop (k + 1) line)) (filter left (drop (k + 1) line))) on) (so_far t)

fresh_off : (p : Plan) (s : State) (left : ℕ → Bool) (line : List ℕ) (n k : ℕ) → k < length line → left (get_or line k 0) ≡ false → FreshLeft p s left line n k → FreshLeft p s left line n (k + 1)
fresh_off p s left line n k l off so_far t =
    subst (λ (xs : List ℕ). (IsFreshAmong p s n xs t → IsFreshAmong p s 4 s.rest t) × (IsFreshAmong p s 4 s.rest t → IsFreshAmong p s n xs t))
    (left_at left line k l ∙ ap (λ (b : Bool). cond b (get_or line k 0 ∷ filter left (drop (k + 1) line)) (filter left (drop (k + 1) line))) off) (so_far t)

fresh_no : (p : Plan) (s : State) (left : ℕ → Bool) (line : List ℕ) (n k : ℕ) → k < length line → 0 < n → left (get_or line k 0) ≡ true → (IsCandidate p s (get_or line k 0) → ⊥) → FreshLeft p s left line n k → FreshLeft p s left line n (k + 1)
fresh_no p s left line zero k l m on none so_far t = absurd (omega arith)
fresh_no p s left line (suc n) k l m on none so_far t =
    let both = fresh_cons p s left line (suc n) k l on so_far t in
    (λ h. both.0 (inl (none, h)), λ h. by_case (both.1 h))
  where
    by_case : ((IsCandidate p s (get_or line k 0) → ⊥) × IsFreshAmong p s (suc n) (filter left (drop (k + 1) line)) t)
        ⊎ ((IsCandidate p s (get_or line k 0) × (is_some (order_with p s (get_or line k 0)) ≡ true) × (get_or line k 0 ≡ t))
        ⊎ (IsCandidate p s (get_or line k 0) × (order_with p s (get_or line k 0) ≡ None) × IsFreshAmong p s n (filter left (drop (k + 1) line)) t)) → IsFreshAmong p s (suc n) (filter left (drop (k + 1) line)) t
    by_case (inl h) = h.1
    by_case (inr (inl h)) = absurd (none h.0)
    by_case (inr (inr h)) = absurd (none h.0)

-- a task that isn't left, or is no candidate
pub fresh_skip : (p : Plan) (s : State) (left : ℕ → Bool) (line : List ℕ) (n k : ℕ) → k < length line → 0 < n → ((left (get_or line k 0) ≡ true) × IsCandidate p s (get_or line k 0) → ⊥) → FreshLeft p s left line n k → FreshLeft p s left line n (k + 1)
fresh_skip p s left line n k l m none so_far = by_bool (left (get_or line k 0)) (λ on. fresh_no p s left line n k l m on (λ can. none (on, can)) so_far) (λ off. fresh_off p s left line n k l off so_far)

-- a candidate with which there is no order
pub fresh_pass : (p : Plan) (s : State) (left : ℕ → Bool) (line : List ℕ) (n k t : ℕ) → k < length line → 0 < n → t ≡ get_or line k 0 → left (get_or line k 0) ≡ true → IsCandidate p s (get_or line k 0) → order_with p s t ≡ None → FreshLeft p s left line n k → FreshLeft p s left line (n - 1) (k + 1)
fresh_pass p s left line zero k u l m at on can none so_far t = absurd (omega arith)
fresh_pass p s left line (suc n) k u l m at on can none so_far t =
    let both = fresh_cons p s left line (suc n) k l on so_far t in
    let e : n ≡ suc n - 1 = omega arith in
    subst (λ (i : ℕ). (IsFreshAmong p s i (filter left (drop (k + 1) line)) t → IsFreshAmong p s 4 s.rest t) × (IsFreshAmong p s 4 s.rest t → IsFreshAmong p s i (filter left (drop (k + 1) line)) t)) e
    (λ h. both.0 (inr (inr (can, no_order, h))), λ h. by_case (both.1 h))
  where
    no_order : order_with p s (get_or line k 0) ≡ None
    no_order = ap (order_with p s) (sym at) ∙ none

    by_case : ((IsCandidate p s (get_or line k 0) → ⊥) × IsFreshAmong p s (suc n) (filter left (drop (k + 1) line)) t)
        ⊎ ((IsCandidate p s (get_or line k 0) × (is_some (order_with p s (get_or line k 0)) ≡ true) × (get_or line k 0 ≡ t))
        ⊎ (IsCandidate p s (get_or line k 0) × (order_with p s (get_or line k 0) ≡ None) × IsFreshAmong p s n (filter left (drop (k + 1) line)) t)) → IsFreshAmong p s n (filter left (drop (k + 1) line)) t
    by_case (inl h) = absurd (h.0 can)
    by_case (inr (inl h)) = absurd (let no = ap is_some no_order in let yes = h.1 in cc)
    by_case (inr (inr h)) = h.2

-- and one with which there is one
pub fresh_found : (p : Plan) (s : State) (left : ℕ → Bool) (line : List ℕ) (n k t : ℕ) (ts : List ℕ) → k < length line → 0 < n → t ≡ get_or line k 0 → left (get_or line k 0) ≡ true → IsCandidate p s (get_or line k 0) → order_with p s t ≡ Some ts → FreshLeft p s left line n k → IsFreshAmong p s 4 s.rest t
fresh_found p s left line zero k t ts l m at on can some so_far = absurd (omega arith)
fresh_found p s left line (suc n) k t ts l m at on can some so_far =
    subst (IsFreshAmong p s 4 s.rest) (sym at) ((fresh_cons p s left line (suc n) k l on so_far (get_or line k 0)).0 (inr (inl (can, ap is_some (ap (order_with p s) (sym at) ∙ some), refl))))

pub fresh_spent : (p : Plan) (s : State) (left : ℕ → Bool) (line : List ℕ) (k : ℕ) → FreshLeft p s left line 0 k → (t : ℕ) → IsFreshAmong p s 4 s.rest t → ⊥
fresh_spent p s left line k so_far t h = none (filter left (drop k line)) ((so_far t).1 h)
  where
    none : (xs : List ℕ) → IsFreshAmong p s 0 xs t → ⊥
    none [] k = k
    none (x ∷ xs) k = k

pub fresh_none : (p : Plan) (s : State) (left : ℕ → Bool) (line : List ℕ) (n k : ℕ) → k ≡ length line → FreshLeft p s left line n k → (t : ℕ) → IsFreshAmong p s 4 s.rest t → ⊥
fresh_none p s left line n k end so_far t h = subst (λ (xs : List ℕ). IsFreshAmong p s n xs t) (ap (filter left) (ap (λ (i : ℕ). drop i line) end ∙ gone line)) ((so_far t).1 h)
  where
    gone : (xs : List ℕ) → drop (length xs) xs ≡ []
    gone [] = refl
    gone (x ∷ xs) = gone xs
