-- What one task more of an order changes at a place.
use Rattle.std.proofs.Common.{◌≡◌, ℕ, zero, suc, ◌+◌, ◌*◌, ◌^◌, ◌<◌, ◌≤◌, ◌||◌, ◌&&◌, Bool, true, false, cond, nat_eq, List, [], ◌∷◌, ◌++◌, length, take, get_or, refl, sym, ap, subst, ◌∙◌, arith, eqb-true}
use Rattle.std.specs.List.{list_any}
use Rattle.std.specs.Prelude.{is_some}
use Rattle.std.proofs.lemmas.List.Folds.{list_any-append}
use Rattle.values.specs.declared.numbers.TaskId.{TaskId}
use Rattle.plan_core.specs.declared.plan.Plan.{Plan}
use Rattle.plan_core.specs.Numbers.{has}
use Rattle.plan_core.specs.Words.{cleans, count_pairs, count_tasks, output_bound, parents, task_numbers}
use Rattle.storage_simulation.specs.declared.standing.Phase.{Phase}
use Rattle.storage_simulation.specs.code.Goods.{IsWithinLimits}
use Rattle.storage_simulation.specs.Goods.{good_size, goods, lies_at, makes, places}
use Rattle.storage_simulation.specs.Standings.{waits}
use Rattle.storage_simulation.specs.Usage.{cleaned, made, usage_of_good, sum_of, usage, weight}
use Rattle.storage_simulation.specs.code.Following.{Follows}
use Rattle.storage_simulation.specs.code.Change.{cleaned_part, held_part, size_part, waits_for_maker}
use Rattle.storage_simulation.specs.code.Law.{KeepsGoods}
use Rattle.storage_simulation.proofs.FollowingLemmas.{at_place, both, by_bool, false_of, front_more, is_itself, once_at, or_case, or_left, or_right}
use Rattle.storage_simulation.proofs.GoodsLemmas.{lies_below}
use Rattle.storage_simulation.proofs.NumbersLemmas.{count_tasks_in, task_at}
use Rattle.storage_simulation.proofs.RisingLemmas.{rises_once}
use Rattle.storage_simulation.proofs.SumsLemmas.{one_changed, sum_at_most, sum_same, total_bound, total_replaced}
use Rattle.storage_simulation.proofs.UsageLemmas.{part_small}

-- who passes a test among some
any_found : (test : ℕ → Bool) (xs : List ℕ) → list_any test xs ≡ true → (u : ℕ) × (has xs u ≡ true) × (test u ≡ true)
any_found test [] h = absurd cc
any_found test (x ∷ xs) h = by_bool (test x)
    (λ e. (x, or_left (nat_eq x x) (has xs x) (is_itself x), e))
    (λ e. let less = any_found test xs (rest (test x) (list_any test xs) h e) in (less.0, or_right (nat_eq x less.0) (has xs less.0) less.1, less.2))
  where
    rest : (a b : Bool) → (a || b) ≡ true → a ≡ false → b ≡ true
    rest true b k e = absurd cc
    rest false b k e = k

found_any : (test : ℕ → Bool) (xs : List ℕ) (u : ℕ) → has xs u ≡ true → test u ≡ true → list_any test xs ≡ true
found_any test [] u h k = absurd cc
found_any test (x ∷ xs) u h k = or_case (nat_eq x u) (has xs u) h
    (λ e. or_left (test x) (list_any test xs) (ap test (eqb-true x u e) ∙ k))
    (λ m. or_right (test x) (list_any test xs) (found_any test xs u m k))

-- fronts
front_has : (xs : List ℕ) (k u : ℕ) → has (take k xs) u ≡ true → (j : ℕ) × (j < k) × (j < length xs) × (get_or xs j 0 ≡ u)
front_has [] zero u h = absurd cc
front_has [] (suc k) u h = absurd cc
front_has (x ∷ xs) zero u h = absurd cc
front_has (x ∷ xs) (suc k) u h = or_case (nat_eq x u) (has (take k xs) u) h
    (λ e. (0, omega arith, omega arith, eqb-true x u e))
    (λ m. let less = front_has xs k u m in (suc less.0, (let a = less.1 in omega arith), (let b = less.2 in omega arith), less.3))

front_grows : (xs : List ℕ) (j k u : ℕ) → j ≤ k → has (take j xs) u ≡ true → has (take k xs) u ≡ true
front_grows [] zero k u l h = absurd cc
front_grows [] (suc j) k u l h = absurd cc
front_grows (x ∷ xs) zero k u l h = absurd cc
front_grows (x ∷ xs) (suc j) zero u l h = absurd (omega arith)
front_grows (x ∷ xs) (suc j) (suc k) u l h = or_case (nat_eq x u) (has (take j xs) u) h
    (λ e. or_left (nat_eq x u) (has (take k xs) u) e)
    (λ m. or_right (nat_eq x u) (has (take k xs) u) (front_grows xs j k u (omega arith) m))

in_order : (xs : List ℕ) (k u : ℕ) → has (take k xs) u ≡ true → has xs u ≡ true
in_order xs k u h = let at = front_has xs k u h in subst (λ (n : ℕ). has xs n ≡ true) at.3 (at_place xs at.0 at.2)

-- what the next task makes, nobody made or cleaned
not_made : (p : Plan) (phase : ℕ → Phase) (order : List ℕ) (k g : ℕ) → KeepsGoods p → Follows p phase order → k < length order → has (makes p (get_or order k 0)) g ≡ true → made p (take k order) g ≡ false
not_made p phase order k g keeps f l m = false_of (made p (take k order) g) none
  where
    none : made p (take k order) g ≡ true → ⊥
    none h =
        let found = any_found (λ t. has (makes p t) g) (take k order) h in
        let same = keeps.one_maker found.0 (get_or order k 0) g found.2 m in
        let there : has (take k order) (get_or order k 0) ≡ true = ap (has (take k order)) (sym same) ∙ found.1 in
        let off = once_at order k f.once l in absurd cc

not_cleaned : (p : Plan) (phase : ℕ → Phase) (order : List ℕ) (k g : ℕ) → KeepsGoods p → Follows p phase order → k < length order → has (makes p (get_or order k 0)) g ≡ true → cleaned p (take k order) g ≡ false
not_cleaned p phase order k g keeps f l m = false_of (cleaned p (take k order) g) none
  where
    none : cleaned p (take k order) g ≡ true → ⊥
    none h =
        let found = any_found (λ t. cleans p t g) (take k order) h in
        let at = front_has order k found.0 found.1 in
        let parent : has (parents p (get_or order at.0 0)) (get_or order k 0) ≡ true = ap (λ (n : ℕ). has (parents p n) (get_or order k 0)) at.3 ∙ keeps.cleans_after found.0 (get_or order k 0) g found.2 m in
        let early = f.ready at.0 at.2 (get_or order k 0) parent (f.waiting (get_or order k 0) (at_place order k l)) in
        let there = front_grows order at.0 k (get_or order k 0) (let a = at.1 in omega arith) early in
        let off = once_at order k f.once l in absurd cc

-- what the next task cleans, nobody cleaned; whether it was made is told by the Clean's parents
cleaned_once : (p : Plan) (phase : ℕ → Phase) (order : List ℕ) (k g : ℕ) → KeepsGoods p → Follows p phase order → k < length order → cleans p (get_or order k 0) g ≡ true → cleaned p (take k order) g ≡ false
cleaned_once p phase order k g keeps f l m = false_of (cleaned p (take k order) g) none
  where
    none : cleaned p (take k order) g ≡ true → ⊥
    none h =
        let found = any_found (λ t. cleans p t g) (take k order) h in
        let same = keeps.one_clean found.0 (get_or order k 0) g found.2 m in
        let there : has (take k order) (get_or order k 0) ≡ true = ap (has (take k order)) (sym same) ∙ found.1 in
        let off = once_at order k f.once l in absurd cc

bool_same : (a b : Bool) → (a ≡ true → b ≡ true) → (b ≡ true → a ≡ true) → a ≡ b
bool_same true b f g = sym (f refl)
bool_same false true f g = g refl
bool_same false false f g = refl

and_of : (a b : Bool) → a ≡ true → b ≡ true → (a && b) ≡ true
and_of true b h k = k
and_of false b h k = absurd cc

made_waits : (p : Plan) (phase : ℕ → Phase) (order : List ℕ) (k g : ℕ) → KeepsGoods p → Follows p phase order → k < length order → cleans p (get_or order k 0) g ≡ true → made p (take k order) g ≡ waits_for_maker p phase (get_or order k 0) g
made_waits p phase order k g keeps f l m = bool_same (made p (take k order) g) (waits_for_maker p phase (get_or order k 0) g) forth back
  where
    forth : made p (take k order) g ≡ true → waits_for_maker p phase (get_or order k 0) g ≡ true
    forth h =
        let found = any_found (λ t. has (makes p t) g) (take k order) h in
        found_any (λ u. waits (phase u) && has (makes p u) g) (parents p (get_or order k 0)) found.0 (keeps.cleans_after (get_or order k 0) found.0 g m found.2)
        (and_of (waits (phase found.0)) (has (makes p found.0) g) (f.waiting found.0 (in_order order k found.0 found.1)) found.2)

    back : waits_for_maker p phase (get_or order k 0) g ≡ true → made p (take k order) g ≡ true
    back h =
        let found = any_found (λ u. waits (phase u) && has (makes p u) g) (parents p (get_or order k 0)) h in
        let parts = both (waits (phase found.0)) (has (makes p found.0) g) found.2 in
        found_any (λ t. has (makes p t) g) (take k order) found.0 (f.ready k l found.0 found.1 parts.0) parts.1

-- a front with one task more
or_none : (b : Bool) → (b || false) ≡ b
or_none true = refl
or_none false = refl

any_more : (test : ℕ → Bool) (xs : List ℕ) (x : ℕ) → list_any test (xs ++ x ∷ []) ≡ (list_any test xs || test x)
any_more test xs x = list_any-append test xs (x ∷ []) ∙ ap (λ (b : Bool). list_any test xs || b) (or_none (test x))

more_part : Plan → (ℕ → ℕ) → List ℕ → ℕ → ℕ → ℕ → ℕ
more_part p size front t s g = cond (lies_at p g s) (cond (cleaned p front g || cleans p t g) 0 (cond (made p front g || has (makes p t) g) (good_size p g) (size g))) 0

part_more : (p : Plan) (size : ℕ → ℕ) (front : List ℕ) (t s g : ℕ) → usage_of_good p size (front ++ t ∷ []) s g ≡ more_part p size front t s g
unfolding more_part
part_more p size front t s g =
    ap (λ (b : Bool). cond (lies_at p g s) (cond b 0 (cond (made p (front ++ t ∷ []) g) (good_size p g) (size g))) 0) (any_more (λ u. cleans p u g) front t)
    ∙ ap (λ (b : Bool). cond (lies_at p g s) (cond (cleaned p front g || cleans p t g) 0 (cond b (good_size p g) (size g))) 0) (any_more (λ u. has (makes p u) g) front t)

pub other_part : (p : Plan) (size : ℕ → ℕ) (front : List ℕ) (t s g : ℕ) → cleans p t g ≡ false → has (makes p t) g ≡ false → usage_of_good p size front s g ≡ usage_of_good p size (front ++ t ∷ []) s g
unfolding more_part
other_part p size front t s g c m = sym (part_more p size front t s g
    ∙ ap (λ (b : Bool). cond (lies_at p g s) (cond b 0 (cond (made p front g || has (makes p t) g) (good_size p g) (size g))) 0) (ap (λ (b : Bool). cleaned p front g || b) c ∙ or_none (cleaned p front g))
    ∙ ap (λ (b : Bool). cond (lies_at p g s) (cond (cleaned p front g) 0 (cond b (good_size p g) (size g))) 0) (ap (λ (b : Bool). made p front g || b) m ∙ or_none (made p front g)))

new_part : (p : Plan) (size : ℕ → ℕ) (front : List ℕ) (t s g : ℕ) → cleaned p front g ≡ false → cleans p t g ≡ false → made p front g ≡ false → has (makes p t) g ≡ true → usage_of_good p size (front ++ t ∷ []) s g ≡ size_part p s g
unfolding more_part
new_part p size front t s g a b c d = part_more p size front t s g ∙ by (cleaned p front g) (cleans p t g) (made p front g) (has (makes p t) g) a b c d
  where
    by : (a b c d : Bool) → a ≡ false → b ≡ false → c ≡ false → d ≡ true → cond (lies_at p g s) (cond (a || b) 0 (cond (c || d) (good_size p g) (size g))) 0 ≡ size_part p s g
    by true b c d h i j k = absurd cc
    by false true c d h i j k = absurd cc
    by false false true d h i j k = absurd cc
    by false false false true h i j k = refl
    by false false false false h i j k = absurd cc

old_part : (p : Plan) (size : ℕ → ℕ) (front : List ℕ) (s g : ℕ) → cleaned p front g ≡ false → made p front g ≡ false → usage_of_good p size front s g ≡ held_part p size s g
old_part p size front s g a b = by (cleaned p front g) (made p front g) a b
  where
    by : (a b : Bool) → a ≡ false → b ≡ false → cond (lies_at p g s) (cond a 0 (cond b (good_size p g) (size g))) 0 ≡ held_part p size s g
    by true b h k = absurd cc
    by false true h k = absurd cc
    by false false h k = refl

-- nothing counts past the goods
none_past : (p : Plan) (size : ℕ → ℕ) (front : List ℕ) (s g : ℕ) → s < places p → goods p ≤ g → usage_of_good p size front s g ≡ 0
none_past p size front s g l m = by_bool (lies_at p g s)
    (λ e. absurd (let low = lies_below p g s l e in omega (arith, low, m)))
    (λ e. ap (λ (b : Bool). cond b (weight p size front g) 0) e)

-- a task that cleans nothing
abbrev pub Making : Plan → (ℕ → ℕ) → List ℕ → ℕ → ℕ → ℕ → Type 0
Making p size order k s t =
    (usage p size (take (k + 1) order) s + sum_of (held_part p size s) (makes p t) ≡ usage p size (take k order) s + sum_of (size_part p s) (makes p t))
    × (sum_of (held_part p size s) (makes p t) ≤ usage p size (take k order) s)
    × (sum_of (size_part p s) (makes p t) ≤ usage p size (take (k + 1) order) s)

pub making : (p : Plan) (phase : ℕ → Phase) (size : ℕ → ℕ) (order : List ℕ) (k s : ℕ) → KeepsGoods p → Follows p phase order → k < length order → s < places p → ((g : ℕ) → cleans p (get_or order k 0) g ≡ false) → Making p size order k s (get_or order k 0)
making p phase size order k s keeps f l place off =
    let t : ℕ = get_or order k 0 in
    let front : List ℕ = take k order in
    let all = total_replaced (usage_of_good p size front s) (usage_of_good p size (front ++ t ∷ []) s) (goods p) (makes p t) (rises_once 0 (makes p t) (keeps.rises t)) (λ q m. none_past p size front s q place m) (λ q m. none_past p size (front ++ t ∷ []) s q place m) (λ q m. other_part p size front t s q (off q) m) in
    let old = sum_same (usage_of_good p size front s) (held_part p size s) (makes p t) (λ g m. old_part p size front s g (not_cleaned p phase order k g keeps f l m) (not_made p phase order k g keeps f l m)) in
    let new = sum_same (usage_of_good p size (front ++ t ∷ []) s) (size_part p s) (makes p t) (λ g m. new_part p size front t s g (not_cleaned p phase order k g keeps f l m) (off g) (not_made p phase order k g keeps f l m) m) in
    let low = sum_at_most (usage_of_good p size front s) (goods p) (makes p t) (rises_once 0 (makes p t) (keeps.rises t)) (λ q m. none_past p size front s q place m) in
    let high = sum_at_most (usage_of_good p size (front ++ t ∷ []) s) (goods p) (makes p t) (rises_once 0 (makes p t) (keeps.rises t)) (λ q m. none_past p size (front ++ t ∷ []) s q place m) in
    let is = ap (λ (xs : List ℕ). usage p size xs s) (front_more order k l) in
    (omega (arith, all, old, new, is), omega (arith, low, old), omega (arith, high, new, is))

-- the same of the task t at the position k
pub making_at : (p : Plan) (phase : ℕ → Phase) (size : ℕ → ℕ) (order : List TaskId) (k s : ℕ) (d : TaskId) → KeepsGoods p → Follows p phase (task_numbers order) → k < length order → s < places p → ((g : ℕ) → cleans p (get_or order k d).0 g ≡ false) → Making p size (task_numbers order) k s (get_or order k d).0
making_at p phase size order k s d keeps f l place off =
    let at = task_at order k d l in
    subst (Making p size (task_numbers order) k s) at (making p phase size (task_numbers order) k s keeps f (let n = count_tasks_in order in omega (arith, n, l)) place (λ g. ap (λ (n : ℕ). cleans p n g) at ∙ off g))

-- a Clean of the good g
pub cleaning : (p : Plan) (phase : ℕ → Phase) (size : ℕ → ℕ) (order : List ℕ) (k s g : ℕ) → KeepsGoods p → Follows p phase order → k < length order → s < places p → ((h : ℕ) → cleans p (get_or order k 0) h ≡ nat_eq g h)
    → usage p size (take (k + 1) order) s + cleaned_part p phase size (get_or order k 0) s g ≡ usage p size (take k order) s
unfolding more_part
cleaning p phase size order k s g keeps f l place is_clean =
    let t : ℕ = get_or order k 0 in
    let front : List ℕ = take k order in
    let mine : cleans p t g ≡ true = is_clean g ∙ is_itself g in
    let all = one_changed (usage_of_good p size front s) (usage_of_good p size (front ++ t ∷ []) s) (goods p) g (λ q e. other_part p size front t s q (is_clean q ∙ e) (keeps.cleans_make t g q mine)) (none_past p size front s g place) (none_past p size (front ++ t ∷ []) s g place) in
    let new = gone t front mine in
    let old = before t front (cleaned_once p phase order k g keeps f l mine) (made_waits p phase order k g keeps f l mine) in
    let is = ap (λ (xs : List ℕ). usage p size xs s) (front_more order k l) in
    omega (arith, all, new, old, is)
  where
    or_true : (b : Bool) → (b || true) ≡ true
    or_true true = refl
    or_true false = refl

    either_way : (b : Bool) (n : ℕ) → cond b n n ≡ n
    either_way true n = refl
    either_way false n = refl

    gone : (t : ℕ) (front : List ℕ) → cleans p t g ≡ true → usage_of_good p size (front ++ t ∷ []) s g ≡ 0
    gone t front mine = part_more p size front t s g
        ∙ ap (λ (b : Bool). cond (lies_at p g s) (cond b 0 (cond (made p front g || has (makes p t) g) (good_size p g) (size g))) 0) (ap (λ (b : Bool). cleaned p front g || b) mine ∙ or_true (cleaned p front g))
        ∙ either_way (lies_at p g s) 0

    before : (t : ℕ) (front : List ℕ) → cleaned p front g ≡ false → made p front g ≡ waits_for_maker p phase t g → usage_of_good p size front s g ≡ cleaned_part p phase size t s g
    before t front a b =
        ap (λ (c : Bool). cond (lies_at p g s) (cond c 0 (cond (made p front g) (good_size p g) (size g))) 0) a
        ∙ ap (λ (c : Bool). cond (lies_at p g s) (cond c (good_size p g) (size g)) 0) b

pub cleaning_at : (p : Plan) (phase : ℕ → Phase) (size : ℕ → ℕ) (order : List TaskId) (k s g : ℕ) (d : TaskId) → KeepsGoods p → Follows p phase (task_numbers order) → k < length order → s < places p → ((h : ℕ) → cleans p (get_or order k d).0 h ≡ nat_eq g h)
    → usage p size (take (k + 1) (task_numbers order)) s + cleaned_part p phase size (get_or order k d).0 s g ≡ usage p size (take k (task_numbers order)) s
cleaning_at p phase size order k s g d keeps f l place is_clean =
    let at = task_at order k d l in
    subst (λ (n : ℕ). usage p size (take (k + 1) (task_numbers order)) s + cleaned_part p phase size n s g ≡ usage p size (take k (task_numbers order)) s) at
    (cleaning p phase size (task_numbers order) k s g keeps f (let n = count_tasks_in order in omega (arith, n, l)) place (λ h. ap (λ (n : ℕ). cleans p n h) at ∙ is_clean h))

-- sums are small
few_goods : (p : Plan) → IsWithinLimits p → goods p ≤ 4000000
unfolding goods
few_goods p limits = by (is_some (output_bound p))
  where
    by : (b : Bool) → count_pairs p + cond b (count_tasks p) 0 ≤ 4000000
    by true = let a = limits.pairs in let c = limits.tasks in omega (arith, a, c)
    by false = let a = limits.pairs in omega (arith, a)

product_small : (n : ℕ) → n ≤ 4000000 → n * 2 ^ 40 < 2 ^ 62
product_small n l = omega (arith, l)

pub usage_small : (p : Plan) (size : ℕ → ℕ) (front : List ℕ) (s : ℕ) → IsWithinLimits p → ((g : ℕ) → size g ≤ 2 ^ 40) → usage p size front s < 2 ^ 62
usage_small p size front s limits small =
    let sum = total_bound (usage_of_good p size front s) (2 ^ 40) (goods p) (λ q. part_small p size front s q limits small) in
    let few = product_small (goods p) (few_goods p limits) in omega (arith, sum, few)
