-- The values of a plan's order at a place: where a task starts, where a Clean is done, where a good counts less.
use Rattle.std.proofs.Common.{◌≡◌, ℕ, ◌+◌, ◌-◌, ◌≤◌, ◌<◌, Bool, true, false, cond, nat_eq, List, [], ◌∷◌, ◌++◌, length, take, Option, Some, None, refl, ap, subst, ◌∙◌, arith, eqb-true}
use Rattle.std.specs.Prelude.{filter, set}
use Rattle.plan_core.specs.declared.plan.Plan.{Plan}
use Rattle.plan_core.specs.Numbers.{has}
use Rattle.plan_core.specs.Words.{cleans, parents}
use Rattle.peak_tree.specs.Numbers.{greatest}
use Rattle.storage_simulation.specs.declared.standing.Phase.{Phase}
use Rattle.storage_simulation.specs.code.Change.{held_part, size_part}
use Rattle.storage_simulation.specs.code.Following.{Follows}
use Rattle.storage_simulation.specs.Goods.{good_size, lies_at, makes, places}
use Rattle.storage_simulation.specs.code.Goods.{place}
use Rattle.storage_simulation.specs.code.Law.{KeepsGoods}
use Rattle.storage_simulation.specs.Standings.{waits}
use Rattle.storage_simulation.specs.Usage.{made, sum_of, usage}
use Rattle.place_peaks.specs.Places.{ChangesOnePlace, brings, held_by, is_place, started, swept, there}
use Rattle.place_peaks.specs.Tree.{IsUpTo, front_changed}
use Rattle.place_peaks.specs.Values.{values}
use Rattle.place_peaks.proofs.UsageLemmas.{start_adds, start_usage, sweep_takes, sweep_usage, usage_away, usage_swap}
use Rattle.place_peaks.proofs.ValuesLemmas.{AreSame, OnFronts, values_passed, values_taken, values_within, within_values}

-- whether a task is there
pub is_there : (s : ℕ) (o : Option ℕ) → is_place s o ≡ true → o ≡ Some s
is_there s None h = absurd cc
is_there s (Some q) h = ap (λ (n : ℕ). Some n) (eqb-true q s h)

pub not_there : (s : ℕ) (o : Option ℕ) → is_place s o ≡ false → o ≡ Some s → ⊥
not_there s None h e = absurd cc
not_there s (Some q) h e = absurd (let same : q ≡ s = some_same q s e in let k : nat_eq q s ≡ true = grind (arith, same) in cc)
  where
    some_same : (a b : ℕ) → Some a ≡ Some b → a ≡ b
    some_same a b e = cc

sum_less : (v w : ℕ → ℕ) (gs : List ℕ) → ((g : ℕ) → v g ≤ w g) → sum_of v gs ≤ sum_of w gs
sum_less v w [] h = omega arith
sum_less v w (g ∷ gs) h = let a = h g in let b = sum_less v w gs h in omega (arith, a, b)

pub brings_more : (p : Plan) (size : ℕ → ℕ) (s t : ℕ) → ((g : ℕ) → size g ≤ good_size p g) → sum_of (held_part p size s) (makes p t) ≤ sum_of (size_part p s) (makes p t)
brings_more p size s t small = sum_less (held_part p size s) (size_part p s) (makes p t) (λ g. by (lies_at p g s) (small g))
  where
    by : {x y : ℕ} (b : Bool) → x ≤ y → cond b x 0 ≤ cond b y 0
    by true h = h
    by false h = omega arith

-- each of the tasks left by the first test stands in the order that is left
abbrev pub IsOrderOf : Plan → (ℕ → Phase) → (ℕ → Bool) → List ℕ → ℕ → List ℕ → Type 0
IsOrderOf p phase left xs t ys = Follows p phase (filter left xs ++ t ∷ filter left ys)

-- A task starts: there its place is brought what it brings in all fronts before it, and it isn't left any more.
pub start_here : (p : Plan) (phase : ℕ → Phase) (size : ℕ → ℕ) (left new : ℕ → Bool) (xs : List ℕ) (t : ℕ) (ys : List ℕ) (s : ℕ)
    → KeepsGoods p → s < places p → ((g : ℕ) → size g ≤ good_size p g) → ((g : ℕ) → cleans p t g ≡ false)
    → IsOrderOf p phase left xs t ys → ((u : ℕ) → has (parents p t) u ≡ true → waits (phase u) ≡ false)
    → left t ≡ true → new t ≡ false → AreSame left new xs → AreSame left new ys → there p s t ≡ true
    → values (there p s) new (held_by p (started p t size) s) [] (xs ++ t ∷ ys)
    ≡ set (front_changed (length (filter (there p s) xs)) (λ n. n + brings p size s t) (values (there p s) left (held_by p size s) [] (xs ++ t ∷ ys))) (length (filter (there p s) xs)) None
start_here p phase size left new xs t ys s keeps l small off f ready is gone same_x same_y at =
    values_taken (there p s) left new (held_by p size s) (held_by p (started p t size) s) (λ n. n + brings p size s t) [] xs t ys is gone same_x same_y at
    (λ k. let adds = start_adds p phase size (filter left xs) (filter left ys) t s k keeps l off f ready in
    let more = brings_more p size s t small in
    let same = start_usage p size (take k (filter left xs)) t s off in
    omega (arith, adds.0, adds.1, more, same))
    (λ k. start_usage p size (filter left xs ++ take k (filter left ys)) t s off ∙ usage_swap p size (filter left xs) (take k (filter left ys)) t s)

-- elsewhere nothing changes
pub start_there : (p : Plan) (size : ℕ → ℕ) (left new : ℕ → Bool) (xs : List ℕ) (t : ℕ) (ys : List ℕ) (s : ℕ)
    → ChangesOnePlace p → s < places p → ((g : ℕ) → cleans p t g ≡ false)
    → left t ≡ true → new t ≡ false → AreSame left new xs → AreSame left new ys → there p s t ≡ false
    → values (there p s) new (held_by p (started p t size) s) [] (xs ++ t ∷ ys) ≡ values (there p s) left (held_by p size s) [] (xs ++ t ∷ ys)
start_there p size left new xs t ys s one l off is gone same_x same_y away =
    values_passed (there p s) left new (held_by p size s) (held_by p (started p t size) s) [] xs t ys is gone same_x same_y away
    (λ k. start_usage p size (take k (filter left xs)) t s off ∙ usage_away p size (take k (filter left xs)) t s one l (not_there s (place p t) away))
    (λ k. start_usage p size (filter left xs ++ take k (filter left ys)) t s off ∙ usage_swap p size (filter left xs) (take k (filter left ys)) t s)

-- what the ended makers of a Clean's good made isn't made by tasks that wait
abbrev pub AreUnmade : Plan → ℕ → List ℕ → Type 0
AreUnmade p t front = (g : ℕ) → cleans p t g ≡ true → made p front g ≡ false

-- A Clean is done: what it frees goes in all fronts before it, and it isn't left any more.
pub sweep_here : (p : Plan) (phase : ℕ → Phase) (size : ℕ → ℕ) (left new : ℕ → Bool) (xs : List ℕ) (t : ℕ) (ys : List ℕ) (s g : ℕ)
    → KeepsGoods p → s < places p → ((x : ℕ) → cleans p t x ≡ nat_eq g x) → ((x : ℕ) → has (makes p t) x ≡ false)
    → OnFronts (AreUnmade p t) (filter left xs) → OnFronts (λ zs. AreUnmade p t (filter left xs ++ zs)) (filter left ys)
    → IsOrderOf p phase left xs t ys → ((u : ℕ) → has (parents p t) u ≡ true → waits (phase u) ≡ false)
    → left t ≡ true → new t ≡ false → AreSame left new xs → AreSame left new ys → there p s t ≡ true
    → values (there p s) new (held_by p (swept p t size) s) [] (xs ++ t ∷ ys)
    ≡ set (front_changed (length (filter (there p s) xs)) (λ n. n - held_part p size s g) (values (there p s) left (held_by p size s) [] (xs ++ t ∷ ys))) (length (filter (there p s) xs)) None
sweep_here p phase size left new xs t ys s g keeps l cleans_g makes_none unmade unmade_too f ready is gone same_x same_y at =
    values_taken (there p s) left new (held_by p size s) (held_by p (swept p t size) s) (λ n. n - held_part p size s g) [] xs t ys is gone same_x same_y at
    (λ k. let takes = sweep_takes p phase size (filter left xs) (filter left ys) t s k g keeps l cleans_g f ready in
    let same = sweep_usage p size (take k (filter left xs)) t s makes_none (unmade k) in
    omega (arith, takes, same))
    (λ k. sweep_usage p size (filter left xs ++ take k (filter left ys)) t s makes_none (unmade_too k) ∙ usage_swap p size (filter left xs) (take k (filter left ys)) t s)

pub sweep_there : (p : Plan) (size : ℕ → ℕ) (left new : ℕ → Bool) (xs : List ℕ) (t : ℕ) (ys : List ℕ) (s : ℕ)
    → ChangesOnePlace p → s < places p → ((x : ℕ) → has (makes p t) x ≡ false)
    → OnFronts (AreUnmade p t) (filter left xs) → OnFronts (λ zs. AreUnmade p t (filter left xs ++ zs)) (filter left ys)
    → left t ≡ true → new t ≡ false → AreSame left new xs → AreSame left new ys → there p s t ≡ false
    → values (there p s) new (held_by p (swept p t size) s) [] (xs ++ t ∷ ys) ≡ values (there p s) left (held_by p size s) [] (xs ++ t ∷ ys)
sweep_there p size left new xs t ys s one l makes_none unmade unmade_too is gone same_x same_y away =
    values_passed (there p s) left new (held_by p size s) (held_by p (swept p t size) s) [] xs t ys is gone same_x same_y away
    (λ k. sweep_usage p size (take k (filter left xs)) t s makes_none (unmade k) ∙ usage_away p size (take k (filter left xs)) t s one l (not_there s (place p t) away))
    (λ k. sweep_usage p size (filter left xs ++ take k (filter left ys)) t s makes_none (unmade_too k) ∙ usage_swap p size (filter left xs) (take k (filter left ys)) t s)

-- The bound is kept after each front before a task where it is kept at the start and no value before the task is above it.
away_there : (p : Plan) (size : ℕ → ℕ) (s : ℕ) → ChangesOnePlace p → s < places p → (t : ℕ) (front : List ℕ) → there p s t ≡ false → held_by p size s (front ++ t ∷ []) ≡ held_by p size s front
away_there p size s one l t front off = usage_away p size front t s one l (not_there s (place p t) off)

pub fronts_within : (p : Plan) (size : ℕ → ℕ) (left : ℕ → Bool) (xs : List ℕ) (s b : ℕ) → ChangesOnePlace p → s < places p → usage p size [] s ≤ b → IsUpTo b (greatest (values (there p s) left (held_by p size s) [] xs))
    → OnFronts (λ front. usage p size front s ≤ b) (filter left xs)
fronts_within p size left xs s b one l low up = values_within (there p s) left (held_by p size s) b [] xs (away_there p size s one l) low up

pub within_fronts : (p : Plan) (size : ℕ → ℕ) (left : ℕ → Bool) (xs : List ℕ) (s b : ℕ) → OnFronts (λ front. usage p size front s ≤ b) (filter left xs)
    → (usage p size [] s ≤ b) × IsUpTo b (greatest (values (there p s) left (held_by p size s) [] xs))
within_fronts p size left xs s b h = (subst (λ (zs : List ℕ). usage p size zs s ≤ b) (none (filter left xs)) (h 0), within_values (there p s) left (held_by p size s) b [] xs h)
  where
    none : (zs : List ℕ) → take 0 zs ≡ []
    none [] = refl
    none (z ∷ zs) = refl
