-- How many tasks are left.
use Rattle.std.proofs.Common.{◌≡◌, ℕ, zero, suc, ◌+◌, ◌<◌, ◌≤◌, ◌||◌, ◌⊎◌, inl, inr, Bool, true, false, cond, nat_eq, eqb-true, List, [], ◌∷◌, ◌++◌, length, take, get_or, refl, sym, ap, ◌∙◌, arith}
use Rattle.std.specs.Prelude.{not}
use Rattle.std.proofs.lemmas.Bool.{cases_lt}
use Rattle.std.proofs.lemmas.List.{take_all}
use Rattle.plan_core.specs.declared.plan.Plan.{Plan}
use Rattle.plan_core.specs.Numbers.{has}
use Rattle.plan_core.specs.Words.{count_tasks}
use Rattle.storage_simulation.specs.Standings.{waits}
use Rattle.values.specs.Numbers.{total}
use Rattle.storage_simulation.specs.Ordering.{Progress, is_done}
use Rattle.storage_simulation.specs.code.Ordering.{IsOpen, AreSteps}
use Rattle.storage_simulation.proofs.DeterminedLemmas.{step_opens}
use Rattle.storage_simulation.proofs.FollowingLemmas.{by_bool, front_more, is_itself}
use Rattle.storage_simulation.proofs.StepsLemmas.{any_more}
use Rattle.storage_simulation.proofs.SumsLemmas.{total_bound, total_change}

or_again : (a b c : Bool) → (a || (b || c)) ≡ ((a || b) || c)
or_again true b c = refl
or_again false b c = refl

-- one task placed
pub done_next : (st : Progress) (front : List ℕ) (t u : ℕ) → is_done st (front ++ t ∷ []) u ≡ (is_done st front u || nat_eq t u)
done_next st front t u = ap (λ (b : Bool). not (waits (st.phase u)) || b) (any_more (λ y. nat_eq y u) front t) ∙ or_again (not (waits (st.phase u))) (has front u) (nat_eq t u)

abbrev pub left : Plan → Progress → List ℕ → ℕ
left p st front = total (count_tasks p) (λ t. cond (is_done st front t) 0 1)

cond_most : (b : Bool) → cond b 0 1 ≤ 1
cond_most true = omega arith
cond_most false = omega arith

pub left_most : (p : Plan) (st : Progress) (front : List ℕ) → left p st front ≤ count_tasks p
left_most p st front = let most = total_bound (λ t. cond (is_done st front t) 0 1) 1 (count_tasks p) (λ t. cond_most (is_done st front t)) in omega (arith, most)

or_kept : (a b : Bool) → b ≡ false → (a || b) ≡ a
or_kept true b e = refl
or_kept false b e = e

or_new : (a b : Bool) → b ≡ true → (a || b) ≡ true
or_new true b e = refl
or_new false b e = e

pub left_less : (p : Plan) (st : Progress) (front : List ℕ) (t : ℕ) → IsOpen p st front t → left p st (front ++ t ∷ []) + 1 ≡ left p st front
left_less p st front t opens =
    let change = total_change (λ u. cond (is_done st (front ++ t ∷ []) u) 0 1) (λ u. cond (is_done st front u) 0 1) (count_tasks p) t opens.in_range
    (λ u off. ap (λ (b : Bool). cond b zero 1) (done_next st front t u ∙ or_kept (is_done st front u) (nat_eq t u) (by_bool (nat_eq t u) (λ e. absurd (off (sym (eqb-true t u e)))) (λ e. e)))) in
    let was : cond (is_done st front t) zero 1 ≡ 1 = ap (λ (b : Bool). cond b zero 1) opens.waits in
    let now : cond (is_done st (front ++ t ∷ []) t) zero 1 ≡ zero = ap (λ (b : Bool). cond b zero 1) (done_next st front t t ∙ or_new (is_done st front t) (nat_eq t t) (is_itself t)) in
    omega (arith, change, was, now)

pub total_point : (w : ℕ → ℕ) (n t : ℕ) → t < n → w t ≤ total n w
unfolding total
total_point w zero t l = absurd (omega arith)
total_point w (suc n) t l = by_place (cases_lt t n) (λ m. total_point w n t m)
  where
    by_place : ((t < n) ⊎ (n ≤ t)) → (t < n → w t ≤ total n w) → w t ≤ total n w + w n
    by_place (inl m) less = omega (arith, less m)
    by_place (inr m) less = let at : w t ≡ w n = ap w (let e : t ≡ n = omega arith in e) in omega (arith, at)

pub left_none : (p : Plan) (st : Progress) (front : List ℕ) (t : ℕ) → left p st front ≤ 0 → t < count_tasks p → is_done st front t ≡ true
left_none p st front t none l = let point = total_point (λ u. cond (is_done st front u) 0 1) (count_tasks p) t l in by_flag (is_done st front t) (omega (arith, point, none))
  where
    by_flag : (b : Bool) → cond b zero 1 ≤ zero → b ≡ true
    by_flag true h = refl
    by_flag false h = absurd (omega arith)

-- there is room for each step
left_long : (p : Plan) (st : Progress) (front : List ℕ) → AreSteps p st front → (k : ℕ) → k ≤ length front → left p st (take k front) + k ≤ count_tasks p
left_long p st front steps zero l = let most = left_most p st (take 0 front) in omega (arith, most)
left_long p st front steps (suc k) l =
    let rest = left_long p st front steps k (omega arith) in
    let fewer = left_less p st (take k front) (get_or front k 0) (step_opens p st (take k front) (get_or front k 0) (steps k (omega arith))) in
    let same = ap (left p st) (front_more front k (omega arith)) in
    let next = ap (λ (n : ℕ). left p st (take n front)) (let e : suc k ≡ k + 1 = omega arith in e) in
    omega (arith, rest, fewer, same, next)

pub room_at : (p : Plan) (st : Progress) (front : List ℕ) (t : ℕ) → AreSteps p st front → IsOpen p st front t → length front < count_tasks p
room_at p st front t steps opens =
    let whole = left_long p st front steps (length front) (omega arith) in
    let same = ap (left p st) (take_all (length front) front (omega arith)) in
    let fewer = left_less p st front t opens in
    omega (arith, whole, same, fewer)
