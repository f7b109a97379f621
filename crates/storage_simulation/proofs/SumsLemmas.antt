-- Sums in which some elements change.
use Rattle.std.proofs.Common.{◌≡◌, ℕ, zero, suc, ◌+◌, ◌*◌, ◌<◌, ◌≤◌, ◌≢◌, ◌⊎◌, inl, inr, Bool, true, false, cond, nat_eq, refl, sym, ap, ◌∙◌, List, [], ◌∷◌, arith, eqb-true, ◌||◌}
use Rattle.std.proofs.lemmas.Bool.{eqb-false, cases_lt}
use Rattle.plan_core.specs.Numbers.{has}
use Rattle.storage_simulation.specs.Usage.{sum_of}
use Rattle.values.specs.Numbers.{total}
use Rattle.storage_simulation.specs.Following.{AreOnce}
use Rattle.storage_simulation.proofs.FollowingLemmas.{by_bool, has_head, is_itself, once_parts, or_right}

pub total_same : (v w : ℕ → ℕ) (n : ℕ) → ((q : ℕ) → q < n → v q ≡ w q) → total n v ≡ total n w
unfolding total
total_same v w zero h = refl
total_same v w (suc n) h = omega (arith, total_same v w n (λ q l. h q (omega arith)), h n (omega arith))

pub total_bound : (w : ℕ → ℕ) (b n : ℕ) → ((q : ℕ) → w q ≤ b) → total n w ≤ n * b
unfolding total
total_bound w b zero h = omega arith
total_bound w b (suc n) h = grind (arith, total_bound w b n h, h n)

pub total_change : (v w : ℕ → ℕ) (n a : ℕ) → a < n → ((q : ℕ) → q ≢ a → v q ≡ w q) → total n v + w a ≡ total n w + v a
unfolding total
total_change v w zero a l h = absurd (omega arith)
total_change v w (suc n) a l h = by_place (nat_eq a n) refl (λ m. total_change v w n a m h)
  where
    by_place : (b : Bool) → nat_eq a n ≡ b → (a < n → total n v + w a ≡ total n w + v a) → total (suc n) v + w a ≡ total (suc n) w + v a
    by_place true e less = let at : a ≡ n = eqb-true a n e in let same = total_same v w n (λ q m. h q (omega arith)) in omega (arith, same, ap v at, ap w at)
    by_place false e less = let off : a ≢ n = eqb-false a n e in let under = less (omega arith) in let here = h n (λ x. off (sym x)) in omega (arith, under, here)

-- one place changes
pub one_changed : (v w : ℕ → ℕ) (n m : ℕ) → ((q : ℕ) → nat_eq m q ≡ false → v q ≡ w q) → (n ≤ m → v m ≡ 0) → (n ≤ m → w m ≡ 0) → total n v + w m ≡ total n w + v m
one_changed v w n m same none_v none_w = by_case (cases_lt m n)
  where
    other : (q : ℕ) → q ≢ m → v q ≡ w q
    other q off = by_bool (nat_eq m q) (λ e. absurd (off (sym (eqb-true m q e)))) (λ e. same q e)

    by_case : (m < n) ⊎ (n ≤ m) → total n v + w m ≡ total n w + v m
    by_case (inl l) = total_change v w n m l other
    by_case (inr l) = let a = none_v l in let b = none_w l in let c = total_same v w n (λ q k. other q (omega arith)) in omega (arith, a, b, c)

pub sum_same : (v w : ℕ → ℕ) (ms : List ℕ) → ((g : ℕ) → has ms g ≡ true → v g ≡ w g) → sum_of v ms ≡ sum_of w ms
sum_same v w [] h = refl
sum_same v w (m ∷ ms) h = let a = h m (has_head m ms) in let b = sum_same v w ms (λ g k. h g (or_right (nat_eq m g) (has ms g) k)) in omega (arith, a, b)

changed : (v w : ℕ → ℕ) (m q : ℕ) → ℕ
changed v w m q = cond (nat_eq m q) (w q) (v q)

changed_here : (v w : ℕ → ℕ) (m : ℕ) → changed v w m m ≡ w m
unfolding changed
changed_here v w m = ap (λ (b : Bool). cond b (w m) (v m)) (is_itself m)

changed_there : (v w : ℕ → ℕ) (m q : ℕ) → nat_eq m q ≡ false → changed v w m q ≡ v q
unfolding changed
changed_there v w m q e = ap (λ (b : Bool). cond b (w q) (v q)) e

changed_where : (v w : ℕ → ℕ) (m q : ℕ) → nat_eq m q ≡ true → changed v w m q ≡ w q
unfolding changed
changed_where v w m q e = ap (λ (b : Bool). cond b (w q) (v q)) e

-- the elements of a list change
pub total_replaced : (v w : ℕ → ℕ) (n : ℕ) (ms : List ℕ) → AreOnce ms → ((q : ℕ) → n ≤ q → v q ≡ 0) → ((q : ℕ) → n ≤ q → w q ≡ 0) → ((q : ℕ) → has ms q ≡ false → v q ≡ w q) → total n v + sum_of w ms ≡ total n w + sum_of v ms
total_replaced v w n [] o none_v none_w same = let e = total_same v w n (λ q l. same q refl) in omega (arith, e)
total_replaced v w n (m ∷ ms) o none_v none_w same =
    let parts = once_parts m ms o in
    let u : ℕ → ℕ = changed v w m in
    let zero_u : (q : ℕ) → n ≤ q → u q ≡ 0 = λ q l. by_bool (nat_eq m q) (λ e. changed_where v w m q e ∙ none_w q l) (λ e. changed_there v w m q e ∙ none_v q l) in
    let one = one_changed v u n m (λ q e. sym (changed_there v w m q e)) (none_v m) (zero_u m) in
    let rest = total_replaced u w n ms parts.1 zero_u none_w (λ q off. by_bool (nat_eq m q) (λ e. changed_where v w m q e) (λ e. changed_there v w m q e ∙ same q (neither (nat_eq m q) (has ms q) e off))) in
    let others = sum_same u v ms (λ g k. changed_there v w m g (by_bool (nat_eq m g) (λ e. absurd (let there : has ms m ≡ true = ap (has ms) (eqb-true m g e) ∙ k in let off = parts.0 in cc)) (λ e. e))) in
    let here = changed_here v w m in
    omega (arith, one, rest, others, here)
  where
    neither : (a b : Bool) → a ≡ false → b ≡ false → (a || b) ≡ false
    neither true b e f = absurd cc
    neither false b e f = f

sum_zero : (v : ℕ → ℕ) (ms : List ℕ) → ((g : ℕ) → has ms g ≡ true → v g ≡ 0) → sum_of v ms ≡ 0
sum_zero v [] h = refl
sum_zero v (m ∷ ms) h = let a = h m (has_head m ms) in let b = sum_zero v ms (λ g k. h g (or_right (nat_eq m g) (has ms g) k)) in omega (arith, a, b)

without : (w : ℕ → ℕ) (ms : List ℕ) (q : ℕ) → ℕ
without w ms q = cond (has ms q) 0 (w q)

without_in : (w : ℕ → ℕ) (ms : List ℕ) (q : ℕ) → has ms q ≡ true → without w ms q ≡ 0
unfolding without
without_in w ms q h = ap (λ (b : Bool). cond b 0 (w q)) h

without_out : (w : ℕ → ℕ) (ms : List ℕ) (q : ℕ) → has ms q ≡ false → without w ms q ≡ w q
unfolding without
without_out w ms q h = ap (λ (b : Bool). cond b 0 (w q)) h

-- a list's sum is at most the whole one
pub sum_at_most : (w : ℕ → ℕ) (n : ℕ) (ms : List ℕ) → AreOnce ms → ((q : ℕ) → n ≤ q → w q ≡ 0) → sum_of w ms ≤ total n w
sum_at_most w n ms o none =
    let all = total_replaced (without w ms) w n ms o (λ q l. by_bool (has ms q) (λ e. without_in w ms q e) (λ e. without_out w ms q e ∙ none q l)) none (λ q off. without_out w ms q off) in
    let gone = sum_zero (without w ms) ms (λ g k. without_in w ms g k) in
    omega (arith, all, gone)
