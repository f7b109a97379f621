-- What the laws use of a plan.
use Rattle.std.proofs.Common.{◌≡◌, ℕ, suc, ◌+◌, ◌-◌, ◌*◌, ◌^◌, ◌<◌, ◌≤◌, ◌||◌, Bool, true, false, cond, nat_eq, nat_lt, List, [], ◌∷◌, length, refl, arith, eqb-true}
use Rattle.std.specs.Prelude.{Option, Some, None, slice_get}
use Rattle.std.proofs.lemmas.Option.{slice_get_within}
use Rattle.plan_core.specs.declared.plan.Plan.{Plan}
use Rattle.plan_core.specs.declared.plan.Pair.{Pair}
use Rattle.plan_core.specs.declared.plan.Target.TheVariants.{Delivery, Site}
use Rattle.plan_core.specs.declared.plan.Task.{Task}
use Rattle.plan_core.specs.declared.plan.TaskKind.{TaskKind}
use Rattle.plan_core.specs.declared.plan.TaskKind.TheVariants.{Transfer, Run, Clean}
use Rattle.plan_core.specs.code.Numbers.{RisesFrom}
use Rattle.plan_core.specs.Numbers.{has}
use Rattle.plan_core.specs.Words.{count_pairs, count_tasks, is_clean_kind, kind, kind_cleans, kind_in, pair, reads, writes}
use Rattle.storage_simulation.specs.Fitting.{Fits}
use Rattle.storage_simulation.specs.code.Goods.{IsWithinLimits}
use Rattle.storage_simulation.specs.Goods.{delivered_size, good_size, is_delivery, is_delivery_kind, kind_size, makes, pair_size}
use Rattle.storage_simulation.specs.code.Law.{KeepsGoods}
use Rattle.storage_simulation.specs.Ordering.{Progress, size}
use Rattle.storage_simulation.specs.OrderLaw.{stated_order}
use Rattle.storage_simulation.specs.Standings.{waits}
use Rattle.storage_simulation.specs.Usage.{IsWithin}
use Rattle.values.specs.Numbers.{total}
use Rattle.lease_rules.specs.code.Law.{HasStorageLaws}
use Rattle.lease_rules.proofs.ListLemmas.{has_head, or_right}
use Rattle.lease_rules.proofs.TotalLemmas.{total_bound}

cleans_only : (k : Option TaskKind) (g : ℕ) → is_clean_kind k ≡ false → kind_cleans k g ≡ false
cleans_only None g h = refl
cleans_only (Some (Clean q)) g h = absurd cc
cleans_only (Some (Transfer f from to)) g h = refl
cleans_only (Some (Run s js)) g h = refl

-- a Clean has a pair
cleans_some : (k : Option TaskKind) → is_clean_kind k ≡ true → (g : ℕ) × (kind_cleans k g ≡ true)
cleans_some None h = absurd cc
cleans_some (Some (Clean q)) h = (q.0, grind arith)
cleans_some (Some (Transfer f from to)) h = absurd cc
cleans_some (Some (Run s js)) h = absurd cc

-- the deliveries are tasks
pub delivery_below : (p : Plan) (t : ℕ) → is_delivery p t ≡ true → t < count_tasks p
unfolding is_delivery kind
delivery_below p t h = by_task (slice_get p.tasks t) refl h
  where
    by_task : (o : Option Task) → slice_get p.tasks t ≡ o → is_delivery_kind (kind_in o) ≡ true → t < count_tasks p
    by_task None e k = absurd cc
    by_task (Some x) e k = slice_get_within p.tasks t x e

-- what a task makes is a good
makes_range : (p : Plan) (t g : ℕ) → ((q : ℕ) → (has (reads p t) q || has (writes p t) q) ≡ true → q < count_pairs p) → has (makes p t) g ≡ true → g < count_pairs p + count_tasks p
unfolding makes
makes_range p t g in_range h = by_kind (is_delivery p t) refl h
  where
    or_none : (b : Bool) → (b || false) ≡ true → b ≡ true
    or_none true e = refl
    or_none false e = absurd cc

    by_kind : (b : Bool) → is_delivery p t ≡ b → has (cond b ((count_pairs p + t) ∷ []) (writes p t)) g ≡ true → g < count_pairs p + count_tasks p
    by_kind true e k = let at : count_pairs p + t ≡ g = eqb-true (count_pairs p + t) g (or_none (nat_eq (count_pairs p + t) g) k) in let l = delivery_below p t e in omega (arith, at, l)
    by_kind false e k = let l = in_range g (or_right (has (reads p t) g) (has (writes p t) g) k) in omega (arith, l)

rises_few : (b n : ℕ) (xs : List ℕ) → RisesFrom b xs → b ≤ n → ((x : ℕ) → has xs x ≡ true → x < n) → length xs + b ≤ n
rises_few b n [] rises l h = omega (arith, l)
rises_few b n (x ∷ xs) rises l h =
    let first = h x (has_head x xs) in
    let others = rises_few (suc x) n xs rises.1 (omega (arith, first)) (λ y m. h y (or_right (nat_eq x y) (has xs y) m)) in
    let low = rises.0 in
    omega (arith, others, low)

pub storage_laws : (p : Plan) → KeepsGoods p
    → ((t q : ℕ) → (has (reads p t) q || has (writes p t) q) ≡ true → q < count_pairs p)
    → ((st : Progress) (ts : List ℕ) → IsWithin p (size st) [] → stated_order p st ≡ Some ts → Fits p st.phase st.held ts)
    → ((st : Progress) (ts : List ℕ) → stated_order p st ≡ Some ts → (t : ℕ) → t < count_tasks p → waits (st.phase t) ≡ true → has ts t ≡ true)
    → HasStorageLaws p
storage_laws p goods in_range fits all = record {
  one_maker = goods.one_maker;
  cleans_after = goods.cleans_after;
  cleans_only = λ t g h. cleans_only (kind p t) g h;
  cleans_make = λ t g h. let some = cleans_some (kind p t) h in goods.cleans_make t some.0 g some.1;
  cleans_range = goods.cleans_pairs;
  makes_range = λ t g h. makes_range p t g (in_range t) h;
  makes_few = λ t. let few = rises_few 0 (count_pairs p + count_tasks p) (makes p t) (goods.rises t) (omega arith) (λ g h. makes_range p t g (in_range t) h) in omega (arith, few);
  order_fits = fits;
  order_all = all;
}

-- all tasks make few goods
pub made_so_far : (p : Plan) (n : ℕ) → IsWithinLimits p → HasStorageLaws p → n ≤ 120000 → total n (λ t. length (makes p t)) ≤ 120000 * 3320000
made_so_far p n limits laws l =
    let each = total_bound (λ t. length (makes p t)) 3320000 n (λ t m. let few = laws.makes_few t in omega (arith, few, limits.pairs, limits.tasks)) in
    omega (arith, each, l)

-- within the limits goods are small
cond_small : (b : Bool) (x y n : ℕ) → x ≤ n → y ≤ n → cond b x y ≤ n
cond_small true x y n h k = h
cond_small false x y n h k = k

pair_small : (p : Plan) (o : Option Pair) → IsWithinLimits p → pair_size p o ≤ 2 ^ 40
pair_small p None limits = omega arith
pair_small p (Some q) limits = limits.sizes q.file.0

kind_small : (p : Plan) (o : Option TaskKind) → IsWithinLimits p → kind_size p o ≤ 2 ^ 40
kind_small p None limits = omega arith
kind_small p (Some (Transfer f from Delivery)) limits = limits.sizes f.0
kind_small p (Some (Transfer f from (Site s))) limits = omega arith
kind_small p (Some (Run s js)) limits = omega arith
kind_small p (Some (Clean q)) limits = omega arith

pub good_small : (p : Plan) (g : ℕ) → IsWithinLimits p → good_size p g ≤ 2 ^ 40
unfolding good_size delivered_size
good_small p g limits = cond_small (nat_lt g (count_pairs p)) (pair_size p (pair p g)) (kind_size p (kind p (g - count_pairs p))) (2 ^ 40) (pair_small p (pair p g) limits) (kind_small p (kind p (g - count_pairs p)) limits)
