-- How many parents aren't done, one task more, and what goes with a task.
use Rattle.std.proofs.Common.{◌≡◌, ℕ, zero, suc, ◌+◌, ◌*◌, ◌^◌, ◌<◌, ◌≤◌, ◌||◌, ◌&&◌, Bool, true, false, cond, nat_eq, eqb-true, List, [], ◌∷◌, ◌++◌, length, refl, sym, ap, ◌∙◌, arith}
use Rattle.std.specs.Prelude.{not, Option, Some, None}
use Rattle.std.specs.List.{list_all}
use Rattle.plan_core.specs.declared.plan.Plan.{Plan}
use Rattle.plan_core.specs.declared.plan.TaskKind.{TaskKind}
use Rattle.plan_core.specs.declared.plan.TaskKind.TheVariants.{Transfer, Run, Clean}
use Rattle.plan_core.specs.code.Numbers.{RisesFrom}
use Rattle.plan_core.specs.Numbers.{has}
use Rattle.plan_core.specs.Words.{count_pairs, kind, pair, parents, writes}
use Rattle.storage_simulation.specs.declared.standing.Held.{Held}
use Rattle.storage_simulation.specs.declared.standing.Held.TheVariants.{Nothing, Stored, Reserved}
use Rattle.storage_simulation.specs.code.Front.{IsOrderable, missing}
use Rattle.storage_simulation.specs.Following.{AreOnce, is_ready}
use Rattle.storage_simulation.specs.code.Goods.{IsWithinLimits}
use Rattle.storage_simulation.specs.Goods.{pair_size}
use Rattle.storage_simulation.specs.Ordering.{Progress, comes, coming, frees, held_or, is_done, is_held, kind_frees, makes_ready}
use Rattle.storage_simulation.specs.Standings.{held_size, sizes}
use Rattle.storage_simulation.specs.Usage.{sum_of}
use Rattle.values.specs.Numbers.{total}
use Rattle.storage_simulation.proofs.CountingLemmas.{done_next}
use Rattle.storage_simulation.proofs.FollowingLemmas.{by_bool, is_itself, once_parts, or_false_right, or_left, or_right}
use Rattle.storage_simulation.proofs.RisingLemmas.{rises_once}
use Rattle.storage_simulation.proofs.StepsLemmas.{or_false_left}
use Rattle.storage_simulation.proofs.SumsLemmas.{sum_same, total_replaced}
use Rattle.storage_simulation.proofs.UsageLemmas.{pair_small}

-- 1 where a test fails, and how many of some numbers don't pass
abbrev pub unless : Bool → ℕ
unless b = cond b 0 1

abbrev pub failing : (ℕ → Bool) → List ℕ → ℕ
failing f xs = sum_of (λ u. cond (f u) 0 1) xs

pub ready_count : (f : ℕ → Bool) (xs : List ℕ) → list_all f xs ≡ nat_eq (failing f xs) 0
ready_count f [] = refl
ready_count f (x ∷ xs) = by_test (f x) refl (ready_count f xs)
  where
    by_test : (b : Bool) → f x ≡ b → list_all f xs ≡ nat_eq (failing f xs) 0 → (f x && list_all f xs) ≡ nat_eq (unless (f x) + failing f xs) 0
    by_test true e less = ap (λ (b : Bool). b && list_all f xs) e ∙ less ∙ ap (λ (n : ℕ). nat_eq n 0) (let z : unless (f x) ≡ 0 = ap unless e in let g : failing f xs ≡ unless (f x) + failing f xs = omega (arith, z) in g)
    by_test false e less = ap (λ (b : Bool). b && list_all f xs) e ∙ (let z : unless (f x) ≡ 1 = ap unless e in let g : false ≡ nat_eq (unless (f x) + failing f xs) 0 = grind (arith, z) in g)

flip : (a b : ℕ) → nat_eq a b ≡ nat_eq b a
flip a b = grind arith

or_kept : (a b : Bool) → b ≡ false → (a || b) ≡ a
or_kept true b h = refl
or_kept false b h = h

-- one number more passes: the same where it isn't among them, one less where it is
failing_same : (f g : ℕ → Bool) (t : ℕ) → ((u : ℕ) → g u ≡ (f u || nat_eq t u)) → (xs : List ℕ) → has xs t ≡ false → failing g xs ≡ failing f xs
failing_same f g t h [] n = refl
failing_same f g t h (x ∷ xs) n =
    let here : unless (g x) ≡ unless (f x) = ap unless (h x ∙ or_kept (f x) (nat_eq t x) (flip t x ∙ or_false_left (nat_eq x t) (has xs t) n)) in
    let less = failing_same f g t h xs (or_false_right (nat_eq x t) (has xs t) n) in
    omega (arith, here, less)

failing_less : (f g : ℕ → Bool) (t : ℕ) → ((u : ℕ) → g u ≡ (f u || nat_eq t u)) → f t ≡ false → (xs : List ℕ) → AreOnce xs → has xs t ≡ true → failing f xs ≡ failing g xs + 1
failing_less f g t h w [] once n = absurd cc
failing_less f g t h w (x ∷ xs) once n = by_head (nat_eq x t) refl (failing_less f g t h w xs (once_parts x xs once).1)
  where
    by_head : (b : Bool) → nat_eq x t ≡ b → (has xs t ≡ true → failing f xs ≡ failing g xs + 1) → failing f (x ∷ xs) ≡ failing g (x ∷ xs) + 1
    by_head true e less =
        let at : x ≡ t = eqb-true x t e in
        let absent : has xs t ≡ false = ap (has xs) (sym at) ∙ (once_parts x xs once).0 in
        let tail = failing_same f g t h xs absent in
        let old : unless (f x) ≡ 1 = ap unless (ap f at ∙ w) in
        let new : unless (g x) ≡ 0 = ap unless (h x ∙ or_right (f x) (nat_eq t x) (flip t x ∙ e)) in
        omega (arith, tail, old, new)
    by_head false e less =
        let here : unless (g x) ≡ unless (f x) = ap unless (h x ∙ or_kept (f x) (nat_eq t x) (flip t x ∙ e)) in
        let in_tail : has xs t ≡ true = sym (ap (λ (b : Bool). b || has xs t) e) ∙ n in
        let tail = less in_tail in
        omega (arith, tail, here)

pub missing_same : (p : Plan) (st : Progress) (front : List ℕ) (t c : ℕ) → has (parents p c) t ≡ false → missing p st (front ++ t ∷ []) c ≡ missing p st front c
missing_same p st front t c n = failing_same (is_done st front) (is_done st (front ++ t ∷ [])) t (done_next st front t) (parents p c) n

pub missing_less : (p : Plan) (st : Progress) (front : List ℕ) (t c : ℕ) → IsOrderable p → is_done st front t ≡ false → has (parents p c) t ≡ true → missing p st front c ≡ missing p st (front ++ t ∷ []) c + 1
missing_less p st front t c able w n = failing_less (is_done st front) (is_done st (front ++ t ∷ [])) t (done_next st front t) w (parents p c) (rises_once 0 (parents p c) (able.parents_rise c)) n

pub ready_missing : (p : Plan) (st : Progress) (front : List ℕ) (t : ℕ) → is_ready p st.phase front t ≡ nat_eq (missing p st front t) 0
ready_missing p st front t = ready_count (is_done st front) (parents p t)

pub makes_ready_is : (p : Plan) (st : Progress) (front : List ℕ) (t c : ℕ) → IsOrderable p → is_done st front t ≡ false → makes_ready p st front t c ≡ (has (parents p c) t && nat_eq (missing p st front c) 1)
makes_ready_is p st front t c able w =
    ap (λ (b : Bool). not b && is_ready p st.phase (front ++ t ∷ []) c) (ready_missing p st front c)
    ∙ ap (λ (b : Bool). not (nat_eq (missing p st front c) 0) && b) (ready_missing p st (front ++ t ∷ []) c)
    ∙ by_parent (has (parents p c) t) refl
  where
    now_last : (m : ℕ) → (not (nat_eq (m + 1) 0) && nat_eq m 0) ≡ nat_eq (m + 1) 1
    now_last zero = refl
    now_last (suc m) = grind arith

    never : (m : ℕ) → (not (nat_eq m 0) && nat_eq m 0) ≡ false
    never zero = refl
    never (suc m) = grind arith

    by_parent : (b : Bool) → has (parents p c) t ≡ b → (not (nat_eq (missing p st front c) 0) && nat_eq (missing p st (front ++ t ∷ []) c) 0) ≡ (b && nat_eq (missing p st front c) 1)
    by_parent true e =
        let less = missing_less p st front t c able w e in
        ap (λ (n : ℕ). not (nat_eq n 0) && nat_eq (missing p st (front ++ t ∷ []) c) 0) less ∙ now_last (missing p st (front ++ t ∷ []) c) ∙ ap (λ (n : ℕ). nat_eq n 1) (sym less)
    by_parent false e = ap (λ (n : ℕ). not (nat_eq (missing p st front c) 0) && nat_eq n 0) (missing_same p st front t c e) ∙ never (missing p st front c)

-- a sum over all numbers that counts those of a list
cond_true : (b : Bool) (x y : ℕ) → b ≡ true → cond b x y ≡ x
cond_true true x y e = refl
cond_true false x y e = absurd cc

cond_false : (b : Bool) (x y : ℕ) → b ≡ false → cond b x y ≡ y
cond_false false x y e = refl
cond_false true x y e = absurd cc

zero_total : (n : ℕ) → total n (λ c. 0) ≡ 0
unfolding total
zero_total zero = refl
zero_total (suc n) = omega (arith, zero_total n)

zero_sum : (xs : List ℕ) → sum_of (λ c. 0) xs ≡ 0
zero_sum [] = refl
zero_sum (x ∷ xs) = omega (arith, zero_sum xs)

pub total_listed : (w : ℕ → ℕ) (n : ℕ) (xs : List ℕ) → AreOnce xs → ((c : ℕ) → has xs c ≡ true → c < n) → total n (λ c. cond (has xs c) (w c) 0) ≡ sum_of w xs
total_listed w n xs once below =
    let all = total_replaced (λ c. cond (has xs c) (w c) 0) (λ c. 0) n xs once
    (λ c l. cond_false (has xs c) (w c) 0 (by_bool (has xs c) (λ h. absurd (let m = below c h in omega (arith, l, m))) (λ h. h)))
    (λ c l. refl) (λ c h. cond_false (has xs c) (w c) 0 h) in
    let here = sum_same (λ c. cond (has xs c) (w c) 0) w xs (λ c h. cond_true (has xs c) (w c) 0 h) in
    omega (arith, all, here, zero_total n, zero_sum xs)

-- scores are small
pub rises_few : (b n : ℕ) (xs : List ℕ) → RisesFrom b xs → b ≤ n → ((x : ℕ) → has xs x ≡ true → x < n) → b + length xs ≤ n
rises_few b n [] h l low = omega (arith, l)
rises_few b n (x ∷ xs) h l low =
    let here : x < n = low x (or_left (nat_eq x x) (has xs x) (is_itself x)) in
    let first : b ≤ x = h.0 in
    let rest = rises_few (suc x) n xs h.1 (omega (arith, here)) (λ y m. low y (or_right (nat_eq x y) (has xs y) m)) in
    omega (arith, rest, first)

pub sum_small : (w : ℕ → ℕ) (b : ℕ) (xs : List ℕ) → ((x : ℕ) → w x ≤ b) → sum_of w xs ≤ length xs * b
sum_small w b [] h = omega arith
sum_small w b (x ∷ xs) h = grind (arith, sum_small w b xs h, h x)

coming_small : (p : Plan) (st : Progress) (q : ℕ) → IsWithinLimits p → coming p st q ≤ 2 ^ 40
coming_small p st q limits = by_held (is_held (st.held q))
  where
    by_held : (b : Bool) → cond b 0 (pair_size p (pair p q)) ≤ 2 ^ 40
    by_held true = omega arith
    by_held false = pair_small p (pair p q) limits

pub frees_small : (p : Plan) (st : Progress) (t : ℕ) → IsWithinLimits p → ((g : ℕ) → sizes st.held g ≤ 2 ^ 40) → frees p st t ≤ 2 ^ 40
unfolding frees
frees_small p st t limits small = by_kind (kind p t)
  where
    by_held : (h : Held) (q : ℕ) → held_size h ≤ 2 ^ 40 → held_or h (pair_size p (pair p q)) ≤ 2 ^ 40
    by_held Nothing q l = pair_small p (pair p q) limits
    by_held (Stored n) q l = l
    by_held (Reserved n) q l = l

    by_kind : (o : Option TaskKind) → kind_frees p st o ≤ 2 ^ 40
    by_kind None = omega arith
    by_kind (Some (Transfer f from to)) = omega arith
    by_kind (Some (Run s js)) = omega arith
    by_kind (Some (Clean q)) = by_held (st.held q.0) q.0 (small q.0)

pub comes_few : (p : Plan) (st : Progress) (t : ℕ) → IsOrderable p → IsWithinLimits p → comes p st t < 2 ^ 62
comes_few p st t able limits =
    let sum = sum_small (coming p st) (2 ^ 40) (writes p t) (λ q. coming_small p st q limits) in
    let few = rises_few 0 (count_pairs p) (writes p t) (able.writes_rise t) (omega arith) (able.writes_below t) in
    let most = limits.pairs in
    product (length (writes p t)) (comes p st t) sum (omega (arith, few, most))
  where
    product : (n m : ℕ) → m ≤ n * 2 ^ 40 → n ≤ 64 * 50000 → m < 2 ^ 62
    product n m h l = omega (arith, h, l)
