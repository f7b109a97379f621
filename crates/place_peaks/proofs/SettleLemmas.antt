-- The values where a good counts less, where a task waits again, and where a Clean is to be tried again.
use Rattle.std.proofs.Common.{◌≡◌, ℕ, ◌+◌, ◌-◌, ◌≤◌, ◌<◌, ◌||◌, Bool, true, false, cond, nat_eq, List, [], ◌∷◌, ◌++◌, length, take, None, refl, sym, ap, ◌∙◌, arith}
use Rattle.std.specs.Prelude.{filter, set}
use Rattle.plan_core.specs.declared.plan.Plan.{Plan}
use Rattle.plan_core.specs.Numbers.{has}
use Rattle.plan_core.specs.Words.{cleans, parents}
use Rattle.storage_simulation.specs.declared.standing.Phase.{Phase}
use Rattle.storage_simulation.specs.code.Change.{held_part}
use Rattle.storage_simulation.specs.Goods.{good_size, goods, lies_at, makes, places}
use Rattle.storage_simulation.specs.code.Goods.{place}
use Rattle.storage_simulation.specs.code.Law.{KeepsGoods}
use Rattle.storage_simulation.specs.Standings.{waits}
use Rattle.storage_simulation.specs.Usage.{cleaned, made, usage_of_good, usage, weight}
use Rattle.place_peaks.proofs.Offered.{by_bool, is_itself, lies_below, one_changed, total_same}
use Rattle.place_peaks.specs.Places.{ChangesOnePlace, held_by, there}
use Rattle.place_peaks.specs.Tree.{front_changed}
use Rattle.place_peaks.specs.Values.{values}
use Rattle.place_peaks.proofs.PlacesLemmas.{IsOrderOf, not_there}
use Rattle.place_peaks.proofs.UsageLemmas.{any_last, sweep_takes, usage_away, usage_same, usage_swap}
use Rattle.place_peaks.proofs.ValuesLemmas.{AreSame, OnFronts, values_changed, values_kept, values_passed, values_taken, values_until}

-- a good is held at another size
abbrev pub resized : ℕ → ℕ → (ℕ → ℕ) → ℕ → ℕ
resized g n size x = cond (nat_eq g x) n (size x)

resized_here : (g n : ℕ) (size : ℕ → ℕ) → resized g n size g ≡ n
resized_here g n size = ap (λ (b : Bool). cond b n (size g)) (is_itself g)

none_past : (p : Plan) (size : ℕ → ℕ) (front : List ℕ) (s g : ℕ) → s < places p → goods p ≤ g → usage_of_good p size front s g ≡ 0
none_past p size front s g l m = by_bool (lies_at p g s)
    (λ e. absurd (let low = lies_below p g s l e in omega (arith, low, m)))
    (λ e. ap (λ (b : Bool). cond b (weight p size front g) 0) e)

-- where a front neither makes nor cleans the good, it counts what is held
pub resized_counts : (p : Plan) (size : ℕ → ℕ) (front : List ℕ) (g n s : ℕ) → s < places p → cleaned p front g ≡ false → made p front g ≡ false
    → usage p (resized g n size) front s + held_part p size s g ≡ usage p size front s + cond (lies_at p g s) n 0
resized_counts p size front g n s l clean unmade =
    let all = one_changed (usage_of_good p (resized g n size) front s) (usage_of_good p size front s) (goods p) g
    (λ q off. ap (λ (b : Bool). cond (lies_at p q s) (cond (cleaned p front q) 0 (cond (made p front q) (good_size p q) (cond b n (size q)))) 0) off)
    (none_past p (resized g n size) front s g l) (none_past p size front s g l) in
    let old : usage_of_good p size front s g ≡ held_part p size s g = counts (size g) in
    let new : usage_of_good p (resized g n size) front s g ≡ cond (lies_at p g s) n 0 = counts (resized g n size g) ∙ ap (λ (m : ℕ). cond (lies_at p g s) m 0) (resized_here g n size) in
    omega (arith, all, old, new)
  where
    counts : (x : ℕ) → cond (lies_at p g s) (cond (cleaned p front g) 0 (cond (made p front g) (good_size p g) x)) 0 ≡ cond (lies_at p g s) x 0
    counts x = ap (λ (b : Bool). cond (lies_at p g s) (cond b 0 (cond (made p front g) (good_size p g) x)) 0) clean ∙ ap (λ (b : Bool). cond (lies_at p g s) (cond b (good_size p g) x) 0) unmade

-- where it cleans the good, it counts as before
pub resized_gone : (p : Plan) (size : ℕ → ℕ) (front : List ℕ) (g n s : ℕ) → cleaned p front g ≡ true → usage p (resized g n size) front s ≡ usage p size front s
resized_gone p size front g n s clean = usage_same p (resized g n size) size front front s (λ x. by x (nat_eq g x) refl)
  where
    by : (x : ℕ) (b : Bool) → nat_eq g x ≡ b → cond (cleaned p front x) 0 (cond (made p front x) (good_size p x) (cond b n (size x))) ≡ weight p size front x
    by x false e = refl
    by x true e = let same : g ≡ x = grind (arith, e) in let gone : cleaned p front x ≡ true = ap (cleaned p front) (sym same) ∙ clean in
        ap (λ (b : Bool). cond b 0 (cond (made p front x) (good_size p x) n)) gone ∙ sym (ap (λ (b : Bool). cond b 0 (cond (made p front x) (good_size p x) (size x))) gone)

-- where the good lies elsewhere, it counts nothing
pub resized_away : (p : Plan) (size : ℕ → ℕ) (front : List ℕ) (g n s : ℕ) → lies_at p g s ≡ false → usage p (resized g n size) front s ≡ usage p size front s
resized_away p size front g n s off = total_same _ _ (goods p) (λ x l. by x (nat_eq g x) refl)
  where
    by : (x : ℕ) (b : Bool) → nat_eq g x ≡ b → cond (lies_at p x s) (cond (cleaned p front x) 0 (cond (made p front x) (good_size p x) (cond b n (size x)))) 0 ≡ usage_of_good p size front s x
    by x false e = refl
    by x true e = let same : g ≡ x = grind (arith, e) in let away : lies_at p x s ≡ false = ap (λ (y : ℕ). lies_at p y s) (sym same) ∙ off in
        ap (λ (b : Bool). cond b (cond (cleaned p front x) 0 (cond (made p front x) (good_size p x) n)) 0) away ∙ sym (ap (λ (b : Bool). cond b (weight p size front x) 0) away)

-- fronts in which the good counts what is held
abbrev pub Counts : Plan → ℕ → List ℕ → Type 0
Counts p g front = (cleaned p front g ≡ false) × (made p front g ≡ false)

-- An arrived size: a good whose Clean t is left counts less in all fronts before that Clean.
pub settle_until : (p : Plan) (size : ℕ → ℕ) (left : ℕ → Bool) (front xs : List ℕ) (t : ℕ) (ys : List ℕ) (g n s : ℕ) → s < places p → n ≤ size g → lies_at p g s ≡ true
    → left t ≡ true → there p s t ≡ true → OnFronts (λ zs. Counts p g (front ++ zs)) (filter left xs) → OnFronts (λ zs. cleaned p (((front ++ filter left xs) ++ t ∷ []) ++ zs) g ≡ true) (filter left ys)
    → values (there p s) left (held_by p (resized g n size) s) front (xs ++ t ∷ ys) ≡ front_changed (length (filter (there p s) xs)) (λ m. m - (size g - n)) (values (there p s) left (held_by p size s) front (xs ++ t ∷ ys))
settle_until p size left front xs t ys g n s l less at is here counts gone =
    values_until (there p s) left (held_by p size s) (held_by p (resized g n size) s) (λ m. m - (size g - n)) front xs t ys is here
    (λ k. let c = counts k in
    let all = resized_counts p size (front ++ take k (filter left xs)) g n s l c.0 c.1 in
    let old : held_part p size s g ≡ size g = ap (λ (b : Bool). cond b (size g) 0) at in
    let new : cond (lies_at p g s) n 0 ≡ n = ap (λ (b : Bool). cond b n 0) at in
    omega (arith, all, old, new, less))
    (λ k. resized_gone p size (((front ++ filter left xs) ++ t ∷ []) ++ take k (filter left ys)) g n s (gone k))

-- A good without a Clean counts less in all fronts.
pub settle_always : (p : Plan) (size : ℕ → ℕ) (left : ℕ → Bool) (front xs : List ℕ) (g n s : ℕ) → s < places p → n ≤ size g → lies_at p g s ≡ true → OnFronts (λ zs. Counts p g (front ++ zs)) (filter left xs)
    → values (there p s) left (held_by p (resized g n size) s) front xs ≡ front_changed (length (filter (there p s) xs)) (λ m. m - (size g - n)) (values (there p s) left (held_by p size s) front xs)
settle_always p size left front xs g n s l less at counts =
    values_changed (there p s) left (held_by p size s) (held_by p (resized g n size) s) (λ m. m - (size g - n)) front front xs
    (λ k. let c = counts k in
    let all = resized_counts p size (front ++ take k (filter left xs)) g n s l c.0 c.1 in
    let old : held_part p size s g ≡ size g = ap (λ (b : Bool). cond b (size g) 0) at in
    let new : cond (lies_at p g s) n 0 ≡ n = ap (λ (b : Bool). cond b n 0) at in
    omega (arith, all, old, new, less))

-- At another place nothing changes.
pub settle_away : (p : Plan) (size : ℕ → ℕ) (left : ℕ → Bool) (front xs : List ℕ) (g n s : ℕ) → lies_at p g s ≡ false
    → values (there p s) left (held_by p (resized g n size) s) front xs ≡ values (there p s) left (held_by p size s) front xs
settle_away p size left front xs g n s off = values_kept (there p s) left (held_by p size s) (held_by p (resized g n size) s) front front xs (λ k. resized_away p size (front ++ take k (filter left xs)) g n s off)

-- A task that waits again stands at the front. What it makes is held at the declared size, so it adds nothing.
pub again_usage : (p : Plan) (size : ℕ → ℕ) (front : List ℕ) (t s : ℕ) → ((g : ℕ) → cleans p t g ≡ false) → ((g : ℕ) → has (makes p t) g ≡ true → size g ≡ good_size p g) → usage p size (t ∷ front) s ≡ usage p size front s
again_usage p size front t s off held = usage_same p size size (t ∷ front) front s (λ g. by (cleans p t g) (cleaned p front g) (has (makes p t) g) (made p front g) (good_size p g) (size g) (off g) (held g))
  where
    by : (ct c mt m : Bool) (d x : ℕ) → ct ≡ false → (mt ≡ true → x ≡ d) → cond (ct || c) 0 (cond (mt || m) d x) ≡ cond c 0 (cond m d x)
    by true c mt m d x e f = absurd cc
    by false true mt m d x e f = refl
    by false false true true d x e f = refl
    by false false true false d x e f = sym (f refl)
    by false false false m d x e f = refl

pub again_values : (p : Plan) (size : ℕ → ℕ) (left : ℕ → Bool) (front xs : List ℕ) (t s : ℕ) → ((g : ℕ) → cleans p t g ≡ false) → ((g : ℕ) → has (makes p t) g ≡ true → size g ≡ good_size p g)
    → values (there p s) left (held_by p size s) (t ∷ front) xs ≡ values (there p s) left (held_by p size s) front xs
again_values p size left front xs t s off held = values_kept (there p s) left (held_by p size s) (held_by p size s) front (t ∷ front) xs (λ k. again_usage p size (front ++ take k (filter left xs)) t s off held)

-- A Clean at the front counts as behind a front.
pub front_last : (p : Plan) (size : ℕ → ℕ) (front : List ℕ) (t s : ℕ) → usage p size (t ∷ front) s ≡ usage p size (front ++ t ∷ []) s
front_last p size front t s = usage_same p size size (t ∷ front) (front ++ t ∷ []) s (λ g.
    ap (λ (b : Bool). cond b 0 (cond (made p (t ∷ front) g) (good_size p g) (size g))) (sym (any_last (λ u. cleans p u g) front t))
    ∙ ap (λ (b : Bool). cond (cleaned p (front ++ t ∷ []) g) 0 (cond b (good_size p g) (size g))) (sym (any_last (λ u. has (makes p u) g) front t)))

-- A Clean that is to be tried again goes from its place in the line to the front: the values change as if it were done.
pub again_clean_here : (p : Plan) (phase : ℕ → Phase) (size : ℕ → ℕ) (left new : ℕ → Bool) (xs : List ℕ) (t : ℕ) (ys : List ℕ) (s g : ℕ)
    → KeepsGoods p → s < places p → ((x : ℕ) → cleans p t x ≡ nat_eq g x)
    → IsOrderOf p phase left xs t ys → ((u : ℕ) → has (parents p t) u ≡ true → waits (phase u) ≡ false)
    → left t ≡ true → new t ≡ false → AreSame left new xs → AreSame left new ys → there p s t ≡ true
    → values (there p s) new (held_by p size s) (t ∷ []) (xs ++ t ∷ ys)
    ≡ set (front_changed (length (filter (there p s) xs)) (λ n. n - held_part p size s g) (values (there p s) left (held_by p size s) [] (xs ++ t ∷ ys))) (length (filter (there p s) xs)) None
again_clean_here p phase size left new xs t ys s g keeps l cleans_g f ready is gone same_x same_y at =
    sym (values_kept (there p s) new (held_by p size s) (λ zs. usage p size (t ∷ zs) s) (t ∷ []) [] (xs ++ t ∷ ys) (λ k. refl))
    ∙ values_taken (there p s) left new (held_by p size s) (λ zs. usage p size (t ∷ zs) s) (λ n. n - held_part p size s g) [] xs t ys is gone same_x same_y at
    (λ k. let takes = sweep_takes p phase size (filter left xs) (filter left ys) t s k g keeps l cleans_g f ready in
    let same = front_last p size (take k (filter left xs)) t s in
    omega (arith, takes, same))
    (λ k. front_last p size (filter left xs ++ take k (filter left ys)) t s ∙ usage_swap p size (filter left xs) (take k (filter left ys)) t s)

-- elsewhere nothing changes
pub again_clean_there : (p : Plan) (size : ℕ → ℕ) (left new : ℕ → Bool) (xs : List ℕ) (t : ℕ) (ys : List ℕ) (s : ℕ)
    → ChangesOnePlace p → s < places p → left t ≡ true → new t ≡ false → AreSame left new xs → AreSame left new ys → there p s t ≡ false
    → values (there p s) new (held_by p size s) (t ∷ []) (xs ++ t ∷ ys) ≡ values (there p s) left (held_by p size s) [] (xs ++ t ∷ ys)
again_clean_there p size left new xs t ys s one l is gone same_x same_y away =
    sym (values_kept (there p s) new (held_by p size s) (λ zs. usage p size (t ∷ zs) s) (t ∷ []) [] (xs ++ t ∷ ys) (λ k. refl))
    ∙ values_passed (there p s) left new (held_by p size s) (λ zs. usage p size (t ∷ zs) s) [] xs t ys is gone same_x same_y away
    (λ k. front_last p size (take k (filter left xs)) t s ∙ usage_away p size (take k (filter left xs)) t s one l (not_there s (place p t) away))
    (λ k. front_last p size (filter left xs ++ take k (filter left ys)) t s ∙ usage_swap p size (filter left xs) (take k (filter left ys)) t s)
