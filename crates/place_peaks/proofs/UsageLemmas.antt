-- What a place holds after a front with one task more, and where that task has started.
use Rattle.std.proofs.Common.{◌≡◌, ℕ, zero, suc, ◌+◌, ◌≤◌, ◌<◌, ◌||◌, ◌&&◌, ◌⊎◌, inl, inr, Bool, true, false, cond, nat_eq, List, [], ◌∷◌, ◌++◌, length, take, drop, get_or, refl, sym, ap, subst, ◌∙◌, arith, eqb-true, append_assoc, length-append}
use Rattle.std.specs.Prelude.{Some}
use Rattle.std.specs.List.{list_any}
use Rattle.std.proofs.lemmas.Bool.{cases_lt}
use Rattle.std.proofs.lemmas.List.{take_at, take-append-le, take-append-drop, get_or_append_left, get_or-append-add}
use Rattle.std.proofs.lemmas.List.Folds.{list_any-append}
use Rattle.plan_core.specs.declared.plan.Plan.{Plan}
use Rattle.plan_core.specs.Numbers.{has}
use Rattle.plan_core.specs.Words.{cleans, count_tasks, parents}
use Rattle.storage_simulation.specs.declared.standing.Phase.{Phase}
use Rattle.storage_simulation.specs.code.Change.{cleaned_part, held_part, size_part}
use Rattle.storage_simulation.specs.Following.{AreOnce, IsReady}
use Rattle.storage_simulation.specs.code.Following.{Follows}
use Rattle.storage_simulation.specs.Goods.{good_size, goods, lies_at, makes, places}
use Rattle.storage_simulation.specs.code.Goods.{place}
use Rattle.storage_simulation.specs.code.Law.{KeepsGoods}
use Rattle.storage_simulation.specs.Standings.{waits}
use Rattle.storage_simulation.specs.Usage.{cleaned, made, sum_of, usage, weight}
use Rattle.place_peaks.proofs.Offered.{Making, by_bool, cleaning, false_of, making, once_more, once_parts, or_case, or_left, or_right, other_part, total_same}
use Rattle.place_peaks.specs.Places.{ChangesOnePlace, started, swept}

-- tests of lists in another order
or_swap : (a b c : Bool) → (a || (b || c)) ≡ (b || (a || c))
or_swap true true c = refl
or_swap true false c = refl
or_swap false b c = refl

pub any_last : (test : ℕ → Bool) (xs : List ℕ) (t : ℕ) → list_any test (xs ++ t ∷ []) ≡ (test t || list_any test xs)
any_last test [] t = refl
any_last test (x ∷ xs) t = ap (λ (b : Bool). test x || b) (any_last test xs t) ∙ or_swap (test x) (test t) (list_any test xs)

any_swap : (test : ℕ → Bool) (xs ys : List ℕ) (t : ℕ) → list_any test ((xs ++ ys) ++ t ∷ []) ≡ list_any test ((xs ++ t ∷ []) ++ ys)
any_swap test [] ys t = any_last test ys t
any_swap test (x ∷ xs) ys t = ap (λ (b : Bool). test x || b) (any_swap test xs ys t)

-- usages by weights
pub usage_same : (p : Plan) (u v : ℕ → ℕ) (front back : List ℕ) (s : ℕ) → ((g : ℕ) → weight p u front g ≡ weight p v back g) → usage p u front s ≡ usage p v back s
usage_same p u v front back s h = total_same _ _ (goods p) (λ g l. ap (λ (w : ℕ). cond (lies_at p g s) w 0) (h g))

-- one task more, in any place
pub usage_swap : (p : Plan) (size : ℕ → ℕ) (xs ys : List ℕ) (t s : ℕ) → usage p size ((xs ++ ys) ++ t ∷ []) s ≡ usage p size ((xs ++ t ∷ []) ++ ys) s
usage_swap p size xs ys t s = usage_same p size size ((xs ++ ys) ++ t ∷ []) ((xs ++ t ∷ []) ++ ys) s (λ g.
    ap (λ (b : Bool). cond b 0 (cond (made p ((xs ++ ys) ++ t ∷ []) g) (good_size p g) (size g))) (any_swap (λ u. cleans p u g) xs ys t)
    ∙ ap (λ (b : Bool). cond (cleaned p ((xs ++ t ∷ []) ++ ys) g) 0 (cond b (good_size p g) (size g))) (any_swap (λ u. has (makes p u) g) xs ys t))

weight_more : (p : Plan) (size : ℕ → ℕ) (front : List ℕ) (t g : ℕ) → weight p size (front ++ t ∷ []) g ≡ cond (cleans p t g || cleaned p front g) 0 (cond (has (makes p t) g || made p front g) (good_size p g) (size g))
weight_more p size front t g =
    ap (λ (b : Bool). cond b 0 (cond (made p (front ++ t ∷ []) g) (good_size p g) (size g))) (any_last (λ u. cleans p u g) front t)
    ∙ ap (λ (b : Bool). cond (cleans p t g || cleaned p front g) 0 (cond b (good_size p g) (size g))) (any_last (λ u. has (makes p u) g) front t)

-- Where a task has started, a front counts as it did with the task.
pub start_usage : (p : Plan) (size : ℕ → ℕ) (front : List ℕ) (t s : ℕ) → ((g : ℕ) → cleans p t g ≡ false) → usage p (started p t size) front s ≡ usage p size (front ++ t ∷ []) s
start_usage p size front t s off = usage_same p (started p t size) size front (front ++ t ∷ []) s (λ g. by (cleans p t g) (cleaned p front g) (has (makes p t) g) (made p front g) (good_size p g) (size g) (off g) ∙ sym (weight_more p size front t g))
  where
    by : (ct c mt m : Bool) (d x : ℕ) → ct ≡ false → cond c 0 (cond m d (cond mt d x)) ≡ cond (ct || c) 0 (cond (mt || m) d x)
    by true c mt m d x e = absurd cc
    by false true mt m d x e = refl
    by false false true true d x e = refl
    by false false true false d x e = refl
    by false false false true d x e = refl
    by false false false false d x e = refl

-- Where a Clean is done whose maker isn't in the front, a front counts as it did with the Clean.
pub sweep_usage : (p : Plan) (size : ℕ → ℕ) (front : List ℕ) (t s : ℕ) → ((g : ℕ) → has (makes p t) g ≡ false) → ((g : ℕ) → cleans p t g ≡ true → made p front g ≡ false) → usage p (swept p t size) front s ≡ usage p size (front ++ t ∷ []) s
sweep_usage p size front t s off unmade = usage_same p (swept p t size) size front (front ++ t ∷ []) s (λ g. by (cleans p t g) (cleaned p front g) (has (makes p t) g) (made p front g) (good_size p g) (size g) (off g) (unmade g) ∙ sym (weight_more p size front t g))
  where
    by : (ct c mt m : Bool) (d x : ℕ) → mt ≡ false → (ct ≡ true → m ≡ false) → cond c 0 (cond m d (cond ct 0 x)) ≡ cond (ct || c) 0 (cond (mt || m) d x)
    by ct c true m d x e f = absurd cc
    by true c false true d x e f = absurd (let g = f refl in cc)
    by true true false false d x e f = refl
    by true false false false d x e f = refl
    by false c false m d x e f = refl

-- elsewhere nothing changes
pub usage_away : (p : Plan) (size : ℕ → ℕ) (front : List ℕ) (t s : ℕ) → ChangesOnePlace p → s < places p → (place p t ≡ Some s → ⊥) → usage p size (front ++ t ∷ []) s ≡ usage p size front s
usage_away p size front t s one l off = total_same _ _ (goods p) (λ g m. by_bool (lies_at p g s)
    (λ at. sym (other_part p size front t s g (false_of (cleans p t g) (λ c. off (one.cleans_there t g s l c at))) (false_of (has (makes p t) g) (λ c. off (one.makes_there t g s l c at)))))
    (λ at. ap (λ (b : Bool). cond b (weight p size (front ++ t ∷ []) g) 0) at ∙ sym (ap (λ (b : Bool). cond b (weight p size front g) 0) at)))

-- a front of an order, and behind it a task whose parents don't wait
has_both : (xs ys : List ℕ) (u : ℕ) → has (xs ++ ys) u ≡ (has xs u || has ys u)
has_both xs ys u = list_any-append (λ y. nat_eq y u) xs ys

once_front : (xs ys : List ℕ) → AreOnce (xs ++ ys) → AreOnce xs
once_front [] ys h = refl
once_front (x ∷ xs) ys h = let parts = once_parts x (xs ++ ys) h in once_more x xs (false_of (has xs x) (λ m. let no = parts.0 in let yes = has_both xs ys x ∙ or_left (has xs x) (has ys x) m in absurd cc)) (once_front xs ys parts.1)

once_last : (xs : List ℕ) (t : ℕ) → AreOnce xs → has xs t ≡ false → AreOnce (xs ++ t ∷ [])
once_last [] t h off = refl
once_last (x ∷ xs) t h off =
    let parts = once_parts x xs h in
    let apart = neither (nat_eq x t) (has xs t) off in
    once_more x (xs ++ t ∷ []) (has_both xs (t ∷ []) x ∙ ap (λ (b : Bool). b || (nat_eq t x || false)) parts.0 ∙ flip apart.0) (once_last xs t parts.1 apart.1)
  where
    neither : (a b : Bool) → (a || b) ≡ false → (a ≡ false) × (b ≡ false)
    neither true b e = absurd cc
    neither false b e = (refl, e)

    flip : nat_eq x t ≡ false → (false || (nat_eq t x || false)) ≡ false
    flip e = let same : nat_eq t x ≡ nat_eq x t = grind arith in ap (λ (b : Bool). false || (b || false)) (same ∙ e)

pub follows_front : (p : Plan) (phase : ℕ → Phase) (front more : List ℕ) (t : ℕ) → Follows p phase (front ++ more) → t < count_tasks p → waits (phase t) ≡ true → has front t ≡ false → ((u : ℕ) → has (parents p t) u ≡ true → waits (phase u) ≡ false) → Follows p phase (front ++ t ∷ [])
follows_front p phase front more t f low waiting off ready = record {
  tasks = λ u m. or_case (has front u) (has (t ∷ []) u) (sym (has_both front (t ∷ []) u) ∙ m)
      (λ e. f.tasks u (has_both front more u ∙ or_left (has front u) (has more u) e))
      (λ e. subst (λ (n : ℕ). n < count_tasks p) (last u e) low);
  waiting = λ u m. or_case (has front u) (has (t ∷ []) u) (sym (has_both front (t ∷ []) u) ∙ m)
      (λ e. f.waiting u (has_both front more u ∙ or_left (has front u) (has more u) e))
      (λ e. subst (λ (n : ℕ). waits (phase n) ≡ true) (last u e) waiting);
  once = once_last front t (once_front front more f.once) off;
  ready = λ j l. by_place j l (cases_lt j (length front));
}
  where
    last : (u : ℕ) → (nat_eq t u || false) ≡ true → t ≡ u
    last u e = or_case (nat_eq t u) false e (λ k. eqb-true t u k) (λ k. absurd cc)

    by_place : (j : ℕ) → j < length (front ++ t ∷ []) → (j < length front) ⊎ (length front ≤ j) → IsReady p phase (take j (front ++ t ∷ [])) (get_or (front ++ t ∷ []) j 0)
    by_place j l (inl m) u =
        subst (λ (xs : List ℕ). IsReady p phase xs (get_or (front ++ t ∷ []) j 0)) (take-append-le j front more (omega (arith, m)) ∙ sym (take-append-le j front (t ∷ []) (omega (arith, m))))
        (subst (λ (n : ℕ). IsReady p phase (take j (front ++ more)) n) (get_or_append_left front more 0 j m ∙ sym (get_or_append_left front (t ∷ []) 0 j m))
        (f.ready j (let long = length-append front more in omega (arith, m, long)))) u
    by_place j l (inr m) u = λ n w. absurd (let is : get_or (front ++ t ∷ []) j 0 ≡ t = ap (λ (k : ℕ). get_or (front ++ t ∷ []) k 0) (let long = length-append front (t ∷ []) in let e : j ≡ length front + 0 = omega (arith, l, m, long) in e) ∙ get_or-append-add front (t ∷ []) 0 0 in
        let parent : has (parents p t) u ≡ true = ap (λ (k : ℕ). has (parents p k) u) (sym is) ∙ n in
        let no = ready u parent in cc)

-- fronts of the tasks before t
pub follows_before : (p : Plan) (phase : ℕ → Phase) (before later : List ℕ) (t k : ℕ) → Follows p phase (before ++ t ∷ later) → ((u : ℕ) → has (parents p t) u ≡ true → waits (phase u) ≡ false) → Follows p phase (take k before ++ t ∷ [])
follows_before p phase before later t k f ready = follows_front p phase (take k before) (drop k before ++ t ∷ later) t
    (subst (Follows p phase) (sym (ap (λ (xs : List ℕ). xs ++ t ∷ later) (take-append-drop k before)) ∙ append_assoc (take k before) (drop k before) (t ∷ later)) f)
    (f.tasks t there) (f.waiting t there) absent ready
  where
    there : has (before ++ t ∷ later) t ≡ true
    there = has_both before (t ∷ later) t ∙ or_right (has before t) (has (t ∷ later) t) (or_left (nat_eq t t) (has later t) (let e : nat_eq t t ≡ true = grind arith in e))

    not_before : (xs : List ℕ) → AreOnce (xs ++ t ∷ later) → has xs t ≡ false
    not_before [] o = refl
    not_before (x ∷ xs) o = let parts = once_parts x (xs ++ t ∷ later) o in neither (nat_eq x t) (has xs t)
        (false_of (nat_eq x t) (λ e. let in_rest : has (xs ++ t ∷ later) x ≡ true = ap (has (xs ++ t ∷ later)) (eqb-true x t e) ∙ has_both xs (t ∷ later) t ∙ or_right (has xs t) (has (t ∷ later) t) (or_left (nat_eq t t) (has later t) (let k : nat_eq t t ≡ true = grind arith in k)) in let no = parts.0 in absurd cc))
        (not_before xs parts.1)
      where
        neither : (a b : Bool) → a ≡ false → b ≡ false → (a || b) ≡ false
        neither true b e g = absurd cc
        neither false b e g = g

    not_taken : (xs : List ℕ) (n : ℕ) → has xs t ≡ false → has (take n xs) t ≡ false
    not_taken [] zero o = refl
    not_taken [] (suc n) o = refl
    not_taken (x ∷ xs) zero o = refl
    not_taken (x ∷ xs) (suc n) o = split (nat_eq x t) (has xs t) o (λ e m. ap (λ (b : Bool). b || has (take n xs) t) e ∙ not_taken xs n m)
      where
        split : {P : Type 0} (a b : Bool) → (a || b) ≡ false → (a ≡ false → b ≡ false → P) → P
        split true b e g = absurd cc
        split false b e g = g refl e

    absent : has (take k before) t ≡ false
    absent = not_taken before k (not_before before f.once)

whole : (front : List ℕ) (t : ℕ) → take (length front + 1) (front ++ t ∷ []) ≡ front ++ t ∷ []
whole [] t = refl
whole (x ∷ xs) t = let e : length (x ∷ xs) + 1 ≡ suc (length xs + 1) = omega arith in ap (λ (n : ℕ). take n ((x ∷ xs) ++ t ∷ [])) e ∙ ap (λ (ys : List ℕ). x ∷ ys) (whole xs t)

at_end : (front : List ℕ) (t : ℕ) → get_or (front ++ t ∷ []) (length front) 0 ≡ t
at_end [] t = refl
at_end (x ∷ xs) t = at_end xs t

-- What a task that makes goods adds to a front of the tasks before it.
abbrev pub Adds : Plan → (ℕ → ℕ) → List ℕ → ℕ → ℕ → Type 0
Adds p size front t s =
    (usage p size (front ++ t ∷ []) s + sum_of (held_part p size s) (makes p t) ≡ usage p size front s + sum_of (size_part p s) (makes p t))
    × (sum_of (held_part p size s) (makes p t) ≤ usage p size front s)

pub start_adds : (p : Plan) (phase : ℕ → Phase) (size : ℕ → ℕ) (before later : List ℕ) (t s k : ℕ) → KeepsGoods p → s < places p → ((g : ℕ) → cleans p t g ≡ false) → Follows p phase (before ++ t ∷ later) → ((u : ℕ) → has (parents p t) u ≡ true → waits (phase u) ≡ false)
    → Adds p size (take k before) t s
start_adds p phase size before later t s k keeps l off f ready = by (take k before) (follows_before p phase before later t k f ready)
  where
    by : (front : List ℕ) → Follows p phase (front ++ t ∷ []) → Adds p size front t s
    by front g =
        let long : length front < length (front ++ t ∷ []) = let e = length-append front (t ∷ []) in omega (arith, e) in
        let m = making p phase size (front ++ t ∷ []) (length front) s keeps g long l (λ x. ap (λ (n : ℕ). cleans p n x) (at_end front t) ∙ off x) in
        let at : Making p size (front ++ t ∷ []) (length front) s t = subst (Making p size (front ++ t ∷ []) (length front) s) (at_end front t) m in
        let all = ap (λ (xs : List ℕ). usage p size xs s) (whole front t) in
        let less = ap (λ (xs : List ℕ). usage p size xs s) (take_at front (t ∷ []) (length front) refl) in
        (omega (arith, at.0, all, less), omega (arith, at.1, less))

-- What a Clean takes from a front of the tasks before it.
pub sweep_takes : (p : Plan) (phase : ℕ → Phase) (size : ℕ → ℕ) (before later : List ℕ) (t s k g : ℕ) → KeepsGoods p → s < places p → ((x : ℕ) → cleans p t x ≡ nat_eq g x) → Follows p phase (before ++ t ∷ later) → ((u : ℕ) → has (parents p t) u ≡ true → waits (phase u) ≡ false)
    → usage p size (take k before ++ t ∷ []) s + held_part p size s g ≡ usage p size (take k before) s
sweep_takes p phase size before later t s k g keeps l is f ready = by (take k before) (follows_before p phase before later t k f ready)
  where
    none_waits : (us : List ℕ) → ((u : ℕ) → has us u ≡ true → waits (phase u) ≡ false) → list_any (λ u. waits (phase u) && has (makes p u) g) us ≡ false
    none_waits [] h = refl
    none_waits (u ∷ us) h = both (waits (phase u)) (has (makes p u) g) (list_any (λ u. waits (phase u) && has (makes p u) g) us) (h u (or_left (nat_eq u u) (has us u) (let e : nat_eq u u ≡ true = grind arith in e))) (none_waits us (λ v m. h v (or_right (nat_eq u v) (has us v) m)))
      where
        both : (a b c : Bool) → a ≡ false → c ≡ false → ((a && b) || c) ≡ false
        both true b c e k = absurd cc
        both false b c e k = k

    by : (front : List ℕ) → Follows p phase (front ++ t ∷ []) → usage p size (front ++ t ∷ []) s + held_part p size s g ≡ usage p size front s
    by front h =
        let long : length front < length (front ++ t ∷ []) = let e = length-append front (t ∷ []) in omega (arith, e) in
        let m = cleaning p phase size (front ++ t ∷ []) (length front) s g keeps h long l (λ x. ap (λ (n : ℕ). cleans p n x) (at_end front t) ∙ is x) in
        let at : cleaned_part p phase size (get_or (front ++ t ∷ []) (length front) 0) s g ≡ held_part p size s g = ap (λ (n : ℕ). cleaned_part p phase size n s g) (at_end front t) ∙ ap (λ (b : Bool). cond (lies_at p g s) (cond b (good_size p g) (size g)) 0) (none_waits (parents p t) ready) in
        let all = ap (λ (xs : List ℕ). usage p size xs s) (whole front t) in
        let less = ap (λ (xs : List ℕ). usage p size xs s) (take_at front (t ∷ []) (length front) refl) in
        omega (arith, m, at, all, less)
