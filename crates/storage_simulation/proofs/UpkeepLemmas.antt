-- What goes with a task that waits, once another task is placed.
use Rattle.std.proofs.Common.{◌≡◌, ℕ, zero, suc, ◌+◌, ◌*◌, ◌^◌, ◌<◌, ◌≤◌, ◌||◌, ◌&&◌, ◌⊎◌, inl, inr, Bool, true, false, cond, nat_eq, eqb-true, List, [], ◌∷◌, ◌++◌, length, take, get_or, refl, sym, ap, ◌∙◌, arith}
use Rattle.std.specs.Prelude.{set}
use Rattle.std.proofs.lemmas.Bool.{cases_lt, eqb-false}
use Rattle.std.proofs.lemmas.List.{get_or_past}
use Rattle.plan_core.specs.declared.plan.Plan.{Plan}
use Rattle.plan_core.specs.Numbers.{has}
use Rattle.plan_core.specs.Words.{count_tasks, parents}
use Rattle.storage_simulation.specs.Following.{AreOnce}
use Rattle.storage_simulation.specs.code.Front.{IsOrderable, missing}
use Rattle.storage_simulation.specs.code.Goods.{IsWithinLimits}
use Rattle.storage_simulation.specs.code.Index.{AreGoes, IsLast, last_of}
use Rattle.storage_simulation.specs.Ordering.{Progress, is_done, frees, makes_ready, goes}
use Rattle.storage_simulation.specs.Standings.{sizes}
use Rattle.storage_simulation.specs.Usage.{sum_of}
use Rattle.values.specs.Numbers.{total}
use Rattle.storage_simulation.proofs.CountingLemmas.{done_next}
use Rattle.storage_simulation.proofs.FollowingLemmas.{both, by_bool, front_more, have_both, once_parts, or_case}
use Rattle.storage_simulation.proofs.PlacingLemmas.{number_set}
use Rattle.storage_simulation.proofs.RisingLemmas.{rises_once}
use Rattle.storage_simulation.proofs.ScoringLemmas.{failing, frees_small, makes_ready_is, missing_less, missing_same, total_listed, unless}
use Rattle.storage_simulation.proofs.SumsLemmas.{total_bound, total_same}

-- a task that isn't done is counted, and where one is counted there is no other
pub failing_some : (f : ℕ → Bool) (xs : List ℕ) (v : ℕ) → f v ≡ false → has xs v ≡ true → 1 ≤ failing f xs
failing_some f [] v w h = absurd cc
failing_some f (x ∷ xs) v w h = or_case (nat_eq x v) (has xs v) h
    (λ e. let here : unless (f x) ≡ 1 = ap unless (ap f (eqb-true x v e) ∙ w) in omega (arith, here))
    (λ m. omega (arith, failing_some f xs v w m))

pub failing_one : (f : ℕ → Bool) (xs : List ℕ) (u v : ℕ) → AreOnce xs → failing f xs ≡ 1 → f u ≡ false → f v ≡ false → has xs u ≡ true → has xs v ≡ true → u ≡ v
failing_one f [] u v once one a b h k = absurd cc
failing_one f (x ∷ xs) u v once one a b h k = or_case (nat_eq x u) (has xs u) h
    (λ e. or_case (nat_eq x v) (has xs v) k
    (λ g. sym (eqb-true x u e) ∙ eqb-true x v g)
    (λ m. absurd (two u v (eqb-true x u e) a b m)))
    (λ l. or_case (nat_eq x v) (has xs v) k
    (λ g. absurd (two v u (eqb-true x v g) b a l))
    (λ m. failing_one f xs u v (once_parts x xs once).1 (less u l a) a b l m))
  where
    two : (u v : ℕ) → x ≡ u → f u ≡ false → f v ≡ false → has xs v ≡ true → ⊥
    two u v at a b m = let here : unless (f x) ≡ 1 = ap unless (ap f at ∙ a) in let rest = failing_some f xs v b m in absurd (omega (arith, here, rest, one))

    less : (u : ℕ) → has xs u ≡ true → f u ≡ false → failing f xs ≡ 1
    less u l a = let rest = failing_some f xs u a l in omega (arith, rest, one)

total_add : (a b : ℕ → ℕ) (n : ℕ) → total n (λ c. a c + b c) ≡ total n a + total n b
unfolding total
total_add a b zero = refl
total_add a b (suc n) = omega (arith, total_add a b n)

pub goes_as : (p : Plan) (st : Progress) (front : List ℕ) (v : ℕ) → IsOrderable p → is_done st front v ≡ false → goes p st front v ≡ total (count_tasks p) (last_of p st front v)
goes_as p st front v able w = total_same (λ c. cond (makes_ready p st front v c) (frees p st c) 0) (last_of p st front v) (count_tasks p) (λ c l. ap (λ (b : Bool). cond b (frees p st c) 0) (makes_ready_is p st front v c able w))

pub goes_next : (p : Plan) (st : Progress) (front : List ℕ) (t v : ℕ) (xs : List ℕ) → IsOrderable p → is_done st front t ≡ false → is_done st (front ++ t ∷ []) v ≡ false → ((c : ℕ) → has xs c ≡ has (parents p c) t) → AreOnce xs → ((c : ℕ) → has xs c ≡ true → c < count_tasks p)
    → goes p st (front ++ t ∷ []) v ≡ goes p st front v + sum_of (last_of p st (front ++ t ∷ []) v) xs
goes_next p st front t v xs able waits still same once below =
    let new = goes_as p st (front ++ t ∷ []) v able still in
    let old = goes_as p st front v able was in
    let split = total_same (last_of p st (front ++ t ∷ []) v) (λ c. last_of p st front v c + cond (has xs c) (last_of p st (front ++ t ∷ []) v c) 0) (count_tasks p) (λ c l. by_child c (has xs c) refl) in
    let sum = total_add (last_of p st front v) (λ c. cond (has xs c) (last_of p st (front ++ t ∷ []) v c) 0) (count_tasks p) in
    let listed = total_listed (last_of p st (front ++ t ∷ []) v) (count_tasks p) xs once below in
    omega (arith, new, old, split, sum, listed)
  where
    first_false : (a b : Bool) → (a || b) ≡ false → a ≡ false
    first_false true b h = absurd cc
    first_false false b h = refl

    was : is_done st front v ≡ false
    was = first_false (is_done st front v) (nat_eq t v) (sym (done_next st front t v) ∙ still)

    none_old : (h : Bool) (m k f : ℕ) → m ≡ k + 1 → (h ≡ true → 1 ≤ k) → cond (h && nat_eq m 1) f 0 ≡ zero
    none_old false m k f e g = refl
    none_old true m k f e g = let no : nat_eq m 1 ≡ false = (let some = g refl in grind (arith, e, some)) in ap (λ (b : Bool). cond b f zero) no

    by_child : (c : ℕ) (b : Bool) → has xs c ≡ b → last_of p st (front ++ t ∷ []) v c ≡ last_of p st front v c + cond b (last_of p st (front ++ t ∷ []) v c) 0
    by_child c true e =
        let less = missing_less p st front t c able waits (sym (same c) ∙ e) in
        let none = none_old (has (parents p c) v) (missing p st front c) (missing p st (front ++ t ∷ []) c) (frees p st c) less (λ h. failing_some (is_done st (front ++ t ∷ [])) (parents p c) v still h) in
        omega (arith, none)
    by_child c false e =
        let kept = missing_same p st front t c (sym (same c) ∙ e) in
        let equal : last_of p st (front ++ t ∷ []) v c ≡ last_of p st front v c = ap (λ (m : ℕ). cond (has (parents p c) v && nat_eq m 1) (frees p st c) 0) kept in
        omega (arith, equal)

-- one number of an array is raised
pub raised_at : (xs : List ℕ) (u v f g : ℕ) (h : Bool) → u < length xs → (h ≡ true → u ≡ v) → (u ≡ v → h ≡ true) → g ≡ get_or xs u 0 + f → get_or (set xs u g) v 0 ≡ get_or xs v 0 + cond h f 0
raised_at xs u v f g h l there here is = number_set xs u v g l ∙ by_place (nat_eq u v) refl
  where
    by_place : (b : Bool) → nat_eq u v ≡ b → cond b g (get_or xs v 0) ≡ get_or xs v 0 + cond h f 0
    by_place true e = let at : u ≡ v = eqb-true u v e in let on : cond h f zero ≡ f = ap (λ (b : Bool). cond b f zero) (here at) in omega (arith, is, on, ap (λ (k : ℕ). get_or xs k 0) at)
    by_place false e = let off : cond h f zero ≡ zero = by_bool h (λ k. absurd (eqb-false u v e (there k))) (λ k. ap (λ (b : Bool). cond b f zero) k) in omega (arith, off)

pub last_is : (p : Plan) (st : Progress) (front : List ℕ) (c u : ℕ) → IsOrderable p → missing p st front c ≡ 1 → has (parents p c) u ≡ true → is_done st front u ≡ false → IsLast p st front c u
last_is p st front c u able one parent waits = record {
  parent = parent;
  waits = waits;
  alone = λ v h w. failing_one (is_done st front) (parents p c) v u (rises_once 0 (parents p c) (able.parents_rise c)) one w waits h parent;
}

-- one parent more that is done
failing_push : (f : ℕ → Bool) (xs : List ℕ) (x : ℕ) → failing f (xs ++ x ∷ []) ≡ failing f xs + unless (f x)
failing_push f [] x = omega arith
failing_push f (y ∷ ys) x = let less = failing_push f ys x in omega (arith, less)

pub done_one : (f : ℕ → Bool) (xs : List ℕ) (i : ℕ) → i < length xs → f (get_or xs i 0) ≡ true → failing f (take i xs) ≡ 0 → failing f (take (i + 1) xs) ≡ 0
done_one f xs i l done so_far =
    let more = ap (failing f) (front_more xs i l) ∙ failing_push f (take i xs) (get_or xs i 0) in
    let none : unless (f (get_or xs i 0)) ≡ 0 = ap unless done in
    omega (arith, more, none, so_far)

-- the last parent of a task counts what it frees
pub raise_step : (p : Plan) (st : Progress) (front xs : List ℕ) (c u g v : ℕ) → IsLast p st front c u → u < length xs → missing p st front c ≡ 1 → g ≡ get_or xs u 0 + frees p st c → is_done st front v ≡ false → get_or (set xs u g) v 0 ≡ get_or xs v 0 + last_of p st front v c
raise_step p st front xs c u g v last l one is waits = raised_at xs u v (frees p st c) g (has (parents p c) v && nat_eq (missing p st front c) 1) l
    (λ h. sym (last.alone v (both (has (parents p c) v) (nat_eq (missing p st front c) 1) h).0 waits))
    (λ e. have_both (has (parents p c) v) (nat_eq (missing p st front c) 1) (ap (has (parents p c)) (sym e) ∙ last.parent) (let t : nat_eq (missing p st front c) 1 ≡ true = grind (arith, one) in t)) is

pub raise_none : (p : Plan) (st : Progress) (front : List ℕ) (c v : ℕ) → (missing p st front c ≡ 1 → ⊥) → last_of p st front v c ≡ 0
raise_none p st front c v off = ap (λ (b : Bool). cond b (frees p st c) zero) (and_off (has (parents p c) v) (nat_eq (missing p st front c) 1) (by_bool (nat_eq (missing p st front c) 1) (λ e. absurd (off (eqb-true (missing p st front c) 1 e))) (λ e. e)))
  where
    and_off : (a b : Bool) → b ≡ false → (a && b) ≡ false
    and_off true b h = h
    and_off false b h = refl

pub set_most : (xs : List ℕ) (u v g n : ℕ) → u < length xs → g ≤ get_or xs u 0 + n → get_or (set xs u g) v 0 ≤ get_or xs v 0 + n
set_most xs u v g n l m = let at = number_set xs u v g l in by_place at (nat_eq u v) refl
  where
    by_place : get_or (set xs u g) v 0 ≡ cond (nat_eq u v) g (get_or xs v 0) → (b : Bool) → nat_eq u v ≡ b → get_or (set xs u g) v 0 ≤ get_or xs v 0 + n
    by_place at true e = let now : cond (nat_eq u v) g (get_or xs v 0) ≡ g = ap (λ (b : Bool). cond b g (get_or xs v 0)) e in omega (arith, at, now, m, ap (λ (k : ℕ). get_or xs k 0) (eqb-true u v e))
    by_place at false e = let now : cond (nat_eq u v) g (get_or xs v 0) ≡ get_or xs v 0 = ap (λ (b : Bool). cond b g (get_or xs v 0)) e in omega (arith, at, now)

-- the start, and the end
pub total_none : (w : ℕ → ℕ) → total 0 w ≡ 0
unfolding total
total_none w = refl

pub goes_start : (xs : List ℕ) (w : ℕ → ℕ) (v : ℕ) → ((k : ℕ) → k < length xs → get_or xs k 0 ≡ 0) → get_or xs v 0 ≡ total 0 w
goes_start xs w v none = by (cases_lt v (length xs)) ∙ sym (total_none w)
  where
    by : (v < length xs) ⊎ (length xs ≤ v) → get_or xs v 0 ≡ 0
    by (inl l) = none v l
    by (inr l) = get_or_past xs v 0 l

pub goes_small : (p : Plan) (st : Progress) (front : List ℕ) (v : ℕ) → IsWithinLimits p → ((g : ℕ) → sizes st.held g ≤ 2 ^ 40) → goes p st front v ≤ 120000 * 2 ^ 40
goes_small p st front v limits small =
    let all = total_bound (λ c. cond (makes_ready p st front v c) (frees p st c) 0) (2 ^ 40) (count_tasks p) (λ c. most (makes_ready p st front v c) c) in
    let few = limits.tasks in product (count_tasks p) (goes p st front v) all few
  where
    most : (b : Bool) (c : ℕ) → cond b (frees p st c) 0 ≤ 2 ^ 40
    most true c = frees_small p st c limits small
    most false c = omega arith

    product : (n m : ℕ) → m ≤ n * 2 ^ 40 → n ≤ 120000 → m ≤ 120000 * 2 ^ 40
    product n m h l = omega (arith, h, l)

pub goes_done : (p : Plan) (st : Progress) (front xs : List ℕ) (n : ℕ) → IsOrderable p → n ≡ count_tasks p → n ≤ 120000 → ((v : ℕ) → is_done st front v ≡ false → get_or xs v 0 ≡ total n (last_of p st front v)) → ((v : ℕ) → get_or xs v 0 ≤ n * 2 ^ 40) → AreGoes p st front xs
goes_done p st front xs n able e few each small = record {
  each = λ v w. each v w ∙ ap (λ (m : ℕ). total m (last_of p st front v)) e ∙ sym (goes_as p st front v able w);
  small = λ v. let l = small v in product (get_or xs v 0) l;
}
  where
    product : (m : ℕ) → m ≤ n * 2 ^ 40 → m ≤ 2 ^ 62
    product m h = omega (arith, h, few)

pub goes_kept : (p : Plan) (st : Progress) (front old new : List ℕ) (sums : ℕ → ℕ) → IsWithinLimits p → ((g : ℕ) → sizes st.held g ≤ 2 ^ 40) → ((v : ℕ) → get_or old v 0 ≤ 2 ^ 62) → ((v : ℕ) → is_done st front v ≡ false → goes p st front v ≡ get_or old v 0 + sums v)
    → ((v : ℕ) → is_done st front v ≡ false → get_or new v 0 ≡ get_or old v 0 + sums v) → ((v : ℕ) → is_done st front v ≡ true → get_or new v 0 ≡ get_or old v 0) → AreGoes p st front new
goes_kept p st front old new sums limits small was next each others = record {
  each = λ v w. each v w ∙ sym (next v w);
  small = λ v. by_bool (is_done st front v)
      (λ d. let same = others v d in let l = was v in omega (arith, same, l))
      (λ w. let is = each v w ∙ sym (next v w) in let l = goes_small p st front v limits small in omega (arith, is, l));
}
