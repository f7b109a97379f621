-- A proper plan keeps its goods; goods and places under the plain policy.
use Rattle.std.proofs.Common.{◌≡◌, ℕ, zero, suc, ◌+◌, ◌-◌, ◌<◌, ◌≤◌, ◌⊎◌, inl, inr, ◌||◌, ◌&&◌, Bool, true, false, cond, nat_eq, List, [], ◌∷◌, ◌++◌, refl, sym, ap, subst, ◌∙◌, arith, eqb-true}
use Rattle.std.specs.Prelude.{Option, Some, None, is_some, slice_get}
use Rattle.std.proofs.lemmas.Bool.{cases_lt, ltb-true, lt-ltb}
use Rattle.std.proofs.lemmas.List.Folds.{list_any-append}
use Rattle.values.specs.code.Policy.{plain}
use Rattle.plan_core.specs.declared.plan.Plan.{Plan}
use Rattle.plan_core.specs.declared.plan.TaskKind.{TaskKind}
use Rattle.plan_core.specs.declared.plan.TaskKind.TheVariants.{Transfer, Run, Clean}
use Rattle.plan_core.specs.declared.plan.Target.TheVariants.{Site, Delivery}
use Rattle.plan_core.specs.declared.plan.Pair.{Pair}
use Rattle.plan_core.specs.Kinds.{kind_writes, on_pair}
use Rattle.plan_core.specs.code.Numbers.{RisesFrom}
use Rattle.plan_core.specs.Numbers.{below, has}
use Rattle.plan_core.specs.code.Proper.{IsProper, is_kind_in_range, is_parent}
use Rattle.plan_core.specs.Words.{bound, cleans, count_pairs, count_tasks, is_at, is_clean, kind, kind_cleans, kind_in, is_clean_kind, output_bound, pair, parents, reads, writes}
use Rattle.storage_simulation.specs.Goods.{count_sites, delivered_size, good_size, goods, is_delivery, is_delivery_kind, lies_at, makes, or_zero, pair_size, place_bound, places}
use Rattle.storage_simulation.specs.Usage.{cleaned, made, usage_of_good, usage, weight}
use Rattle.values.specs.Numbers.{total}
use Rattle.storage_simulation.specs.code.Law.{KeepsGoods, pair_weight, site_usage, written}
use Rattle.storage_simulation.proofs.FollowingLemmas.{false_of, or_case, or_left}
use Rattle.std.proofs.lemmas.List.{append-nil}
use Rattle.storage_simulation.proofs.RisingLemmas.{rises_end}
use Rattle.storage_simulation.proofs.SumsLemmas.{total_same}

or_nothing : (b : Bool) → (b || false) ≡ true → b ≡ true
or_nothing true h = refl
or_nothing false h = h

-- what a task makes: its delivery, or a pair that it writes
pub data Making (p : Plan) (t g : ℕ) : Type 0 where
  delivery : is_delivery p t ≡ true → g ≡ count_pairs p + t → Making p t g
  by_pair : is_delivery p t ≡ false → has (writes p t) g ≡ true → Making p t g

pub making : (p : Plan) (t g : ℕ) → has (makes p t) g ≡ true → Making p t g
unfolding makes
making p t g h = by_kind (is_delivery p t) refl h
  where
    by_kind : (b : Bool) → is_delivery p t ≡ b → has (cond b ((count_pairs p + t) ∷ []) (writes p t)) g ≡ true → Making p t g
    by_kind true e k = delivery e (sym (eqb-true (count_pairs p + t) g (or_nothing (nat_eq (count_pairs p + t) g) k)))
    by_kind false e k = by_pair e k

-- a Clean is no delivery
clean_of : (p : Plan) (t g : ℕ) → cleans p t g ≡ true → is_clean p t ≡ true
clean_of p t g h = by_kind (kind p t) h
  where
    by_kind : (o : Option TaskKind) → kind_cleans o g ≡ true → is_clean_kind o ≡ true
    by_kind None k = absurd cc
    by_kind (Some (Transfer f from to)) k = absurd cc
    by_kind (Some (Run s js)) k = absurd cc
    by_kind (Some (Clean q)) k = refl

clean_delivers : (p : Plan) (t : ℕ) → is_clean p t ≡ true → is_delivery p t ≡ false
unfolding is_delivery
clean_delivers p t h = by_kind (kind p t) h
  where
    by_kind : (o : Option TaskKind) → is_clean_kind o ≡ true → is_delivery_kind o ≡ false
    by_kind None k = absurd cc
    by_kind (Some (Transfer f from to)) k = absurd cc
    by_kind (Some (Run s js)) k = absurd cc
    by_kind (Some (Clean q)) k = refl

-- numbers below a bound are listed rising
below_low : (n : ℕ) (test : ℕ → Bool) (x : ℕ) → n ≤ x → has (below n test) x ≡ false
unfolding below
below_low zero test x l = refl
below_low (suc n) test x l = list_any-append (λ y. nat_eq y x) (below n test) (cond (test n) (n ∷ []) []) ∙ by (has (below n test) x) (test n) (below_low n test x (omega arith))
  where
    off : nat_eq n x ≡ false
    off = false_of (nat_eq n x) (λ e. let same = eqb-true n x e in omega (arith, same, l))

    by : (a b : Bool) → a ≡ false → (a || has (cond b (n ∷ []) []) x) ≡ false
    by true b h = absurd cc
    by false true h = ap (λ (c : Bool). c || false) off
    by false false h = refl

below_high : (n : ℕ) (test : ℕ → Bool) (x : ℕ) → has (below n test) x ≡ true → x < n
below_high n test x h = by (cases_lt x n)
  where
    by : (x < n) ⊎ (n ≤ x) → x < n
    by (inl l) = l
    by (inr l) = absurd (let off = below_low n test x l in cc)

pub below_rises : (n : ℕ) (test : ℕ → Bool) → RisesFrom 0 (below n test)
unfolding below
below_rises zero test = tt
below_rises (suc n) test = by (test n) (below_rises n test)
  where
    by : (b : Bool) → RisesFrom 0 (below n test) → RisesFrom 0 (below n test ++ cond b (n ∷ []) [])
    by true h = rises_end 0 n (below n test) h (omega arith) (below_high n test)
    by false h = subst (RisesFrom 0) (sym (append-nil (below n test))) h

pub writes_rise : (p : Plan) → IsProper p → (t : ℕ) → RisesFrom 0 (writes p t)
unfolding writes
writes_rise p proper t = subst (RisesFrom 0) (sym (proper.tasks t).writes) (below_rises (count_pairs p) (λ q. on_pair (kind_writes p.jobs (kind_in (slice_get p.tasks t))) (slice_get p.pairs q)))

makes_rise : (p : Plan) → IsProper p → (t : ℕ) → RisesFrom 0 (makes p t)
unfolding makes
makes_rise p proper t = by (is_delivery p t)
  where
    by : (b : Bool) → RisesFrom 0 (cond b ((count_pairs p + t) ∷ []) (writes p t))
    by true = (omega arith, tt)
    by false = writes_rise p proper t

-- the laws of plans that goods rest on
abbrev pub CleansAfter : Type 0
CleansAfter = (p : Plan) → IsProper p → (t u q : ℕ) → cleans p t q ≡ true → (has (writes p u) q || has (reads p u) q) ≡ true → is_parent p u t ≡ true

abbrev pub CleansNothing : Type 0
CleansNothing = (p : Plan) → IsProper p → (t q : ℕ) → is_clean p t ≡ true → (has (writes p t) q || has (reads p t) q) ≡ false

abbrev pub ListsInRange : Type 0
ListsInRange = (p : Plan) → IsProper p → (t q : ℕ) → (has (reads p t) q || has (writes p t) q) ≡ true → q < count_pairs p

abbrev pub KindsInRange : Type 0
KindsInRange = (p : Plan) → IsProper p → (t : ℕ) (k : TaskKind) → kind p t ≡ Some k → is_kind_in_range p k ≡ true

pub keeps_goods : CleansAfter → CleansNothing → ListsInRange → KindsInRange → (p : Plan) → IsProper p → KeepsGoods p
keeps_goods after nothing lists kinds p proper = record {
  one_maker = λ t u g h k. one t u g (making p t g h) (making p u g k);
  rises = makes_rise p proper;
  one_clean = proper.flow.one_clean;
  cleans_after = λ t u g h k. after_maker t u g h (making p u g k);
  cleans_make = λ t g h k. false_of (has (makes p t) h) (λ m. none t h (clean_of p t g k) (making p t h m));
  cleans_pairs = clean_low;
}
  where
    written_low : (t g : ℕ) → has (writes p t) g ≡ true → g < count_pairs p
    written_low t g h = lists p proper t g (right (has (reads p t) g) (has (writes p t) g) h)
      where
        right : (a b : Bool) → b ≡ true → (a || b) ≡ true
        right true b k = refl
        right false b k = k

    clean_low : (t g : ℕ) → cleans p t g ≡ true → g < count_pairs p
    clean_low t g h = by_kind (kind p t) refl h
      where
        by_kind : (o : Option TaskKind) → kind p t ≡ o → kind_cleans o g ≡ true → g < count_pairs p
        by_kind None e k = absurd cc
        by_kind (Some (Transfer f from to)) e k = absurd cc
        by_kind (Some (Run s js)) e k = absurd cc
        by_kind (Some (Clean q)) e k = subst (λ (n : ℕ). n < count_pairs p) (eqb-true q.0 g k) (ltb-true q.0 (count_pairs p) (kinds p proper t (Clean q) e))

    one : (t u g : ℕ) → Making p t g → Making p u g → t ≡ u
    one t u g (delivery a b) (delivery c d) = omega (arith, b, d)
    one t u g (delivery a b) (by_pair c d) = absurd (let l = written_low u g d in omega (arith, b, l))
    one t u g (by_pair a b) (delivery c d) = absurd (let l = written_low t g b in omega (arith, d, l))
    one t u g (by_pair a b) (by_pair c d) = proper.flow.one_writer t u g b d

    after_maker : (t u g : ℕ) → cleans p t g ≡ true → Making p u g → has (parents p t) u ≡ true
    after_maker t u g h (delivery a b) = absurd (let l = clean_low t g h in omega (arith, b, l))
    after_maker t u g h (by_pair a b) = after p proper t u g h (or_left (has (writes p u) g) (has (reads p u) g) b)

    none : (t h : ℕ) → is_clean p t ≡ true → Making p t h → ⊥
    none t h c (delivery a b) = let off = clean_delivers p t c in absurd cc
    none t h c (by_pair a b) = let off = nothing p proper t h c in let on = or_left (has (writes p t) h) (has (reads p t) h) b in absurd cc

-- the plain policy
no_output : (p : Plan) → p.policy ≡ plain → output_bound p ≡ None
unfolding output_bound
no_output p h = ap (λ q. q.output) h

pub plain_goods : (p : Plan) → p.policy ≡ plain → goods p ≡ count_pairs p
unfolding goods
plain_goods p h = let e = ap (λ (o : Option ℕ). count_pairs p + cond (is_some o) (count_tasks p) 0) (no_output p h) in omega (arith, e)

pub plain_places : (p : Plan) → p.policy ≡ plain → places p ≡ count_sites p
unfolding places
plain_places p h = let e = ap (λ (o : Option ℕ). count_sites p + cond (is_some o) 1 0) (no_output p h) in omega (arith, e)

pub site_bound : (p : Plan) (s : ℕ) → s < count_sites p → place_bound p s ≡ bound p s
unfolding place_bound
site_bound p s l = ap (λ (b : Bool). cond b (bound p s) (or_zero (output_bound p))) (lt-ltb s (count_sites p) l)

pub below_test : (n : ℕ) (test : ℕ → Bool) (x : ℕ) → has (below n test) x ≡ true → test x ≡ true
unfolding below
below_test zero test x h = absurd cc
below_test (suc n) test x h = or_case (has (below n test) x) (has (cond (test n) (n ∷ []) []) x) (sym (list_any-append (λ y. nat_eq y x) (below n test) (cond (test n) (n ∷ []) [])) ∙ h) (below_test n test x) (last (test n) refl)
  where
    last : (b : Bool) → test n ≡ b → has (cond b (n ∷ []) []) x ≡ true → test x ≡ true
    last true e k = ap test (sym (eqb-true n x (or_nothing (nat_eq n x) k))) ∙ e
    last false e k = absurd cc

-- a delivery writes nothing
delivery_writes : (p : Plan) → IsProper p → (t q : ℕ) → is_delivery p t ≡ true → has (writes p t) q ≡ false
unfolding is_delivery kind writes
delivery_writes p proper t q d = false_of (has (writes p t) q) (λ h. by_kind (kind_in (slice_get p.tasks t)) d (slice_get p.pairs q)
    (below_test (count_pairs p) (λ x. on_pair (kind_writes p.jobs (kind_in (slice_get p.tasks t))) (slice_get p.pairs x)) q (ap (λ (xs : List ℕ). has xs q) (sym (proper.tasks t).writes) ∙ h)))
  where
    by_kind : (o : Option TaskKind) → is_delivery_kind o ≡ true → (x : Option Pair) → on_pair (kind_writes p.jobs o) x ≡ true → ⊥
    by_kind None e x k = absurd cc
    by_kind (Some (Transfer f from (Site s))) e x k = absurd cc
    by_kind (Some (Transfer f from Delivery)) e None k = absurd cc
    by_kind (Some (Transfer f from Delivery)) e (Some y) k = absurd cc
    by_kind (Some (Run s js)) e x k = absurd cc
    by_kind (Some (Clean c)) e x k = absurd cc

makes_pair : (p : Plan) → IsProper p → (t q : ℕ) → q < count_pairs p → has (makes p t) q ≡ has (writes p t) q
unfolding makes
makes_pair p proper t q l = by (is_delivery p t) refl
  where
    by : (b : Bool) → is_delivery p t ≡ b → has (cond b ((count_pairs p + t) ∷ []) (writes p t)) q ≡ has (writes p t) q
    by true e = false_of (has ((count_pairs p + t) ∷ []) q) (λ k. let same = eqb-true (count_pairs p + t) q (or_nothing (nat_eq (count_pairs p + t) q) k) in omega (arith, same, l)) ∙ sym (delivery_writes p proper t q e)
    by false e = refl

made_pair : (p : Plan) → IsProper p → (front : List ℕ) (q : ℕ) → q < count_pairs p → made p front q ≡ written p front q
made_pair p proper [] q l = refl
made_pair p proper (t ∷ ts) q l = ap (λ (b : Bool). b || made p ts q) (makes_pair p proper t q l) ∙ ap (λ (b : Bool). has (writes p t) q || b) (made_pair p proper ts q l)

pair_good : (p : Plan) (q : ℕ) → q < count_pairs p → good_size p q ≡ pair_size p (pair p q)
unfolding good_size
pair_good p q l = ap (λ (b : Bool). cond b (pair_size p (pair p q)) (delivered_size p (q - count_pairs p))) (lt-ltb q (count_pairs p) l)

pub pair_place : (p : Plan) (q s : ℕ) → q < count_pairs p → lies_at p q s ≡ is_at p q s
unfolding lies_at
pair_place p q s l = ap (λ (b : Bool). cond b (is_at p q s) (is_delivery p (q - count_pairs p) && nat_eq s (count_sites p))) (lt-ltb q (count_pairs p) l)

pub pair_part : (p : Plan) (size : ℕ → ℕ) (front : List ℕ) (s q : ℕ) → IsProper p → q < count_pairs p → usage_of_good p size front s q ≡ cond (is_at p q s) (pair_weight p size front q) 0
pair_part p size front s q proper l =
    ap (λ (b : Bool). cond b (weight p size front q) 0) (pair_place p q s l)
    ∙ ap (λ (b : Bool). cond (is_at p q s) (cond (cleaned p front q) 0 (cond b (good_size p q) (size q))) 0) (made_pair p proper front q l)
    ∙ ap (λ (n : ℕ). cond (is_at p q s) (cond (cleaned p front q) 0 (cond (written p front q) n (size q))) 0) (pair_good p q l)

pub plain_usage : (p : Plan) (size : ℕ → ℕ) (front : List ℕ) (s : ℕ) → IsProper p → p.policy ≡ plain → usage p size front s ≡ site_usage p size front s
plain_usage p size front s proper h =
    ap (λ (n : ℕ). total n (usage_of_good p size front s)) (plain_goods p h)
    ∙ total_same (usage_of_good p size front s) (λ q. cond (is_at p q s) (pair_weight p size front q) 0) (count_pairs p) (λ q l. pair_part p size front s q proper l)
