-- Usage at a site by its pairs, and at the output by the deliveries.
use Rattle.std.proofs.Common.{◌≡◌, ℕ, zero, suc, ◌+◌, ◌-◌, ◌<◌, ◌||◌, ◌&&◌, Bool, true, false, cond, nat_eq, nat_lt, List, [], ◌∷◌, length, refl, sym, ap, ◌∙◌, arith, eqb-true}
use Rattle.std.specs.Prelude.{Option, Some, None, is_some, slice_get}
use Rattle.std.specs.List.{list_all}
use Rattle.std.proofs.lemmas.Bool.{ltb-true}
use Rattle.plan_core.specs.declared.plan.Plan.{Plan}
use Rattle.plan_core.specs.declared.plan.Pair.{Pair}
use Rattle.plan_core.specs.Numbers.{has}
use Rattle.plan_core.specs.code.Proper.{IsProper, is_pair_in_range}
use Rattle.plan_core.specs.Words.{cleans, count_pairs, count_tasks, is_at, output_bound, pair, is_on_site, writes}
use Rattle.storage_simulation.specs.Goods.{count_sites, delivered_size, good_size, goods, is_delivery, lies_at, makes, pair_size}
use Rattle.storage_simulation.specs.Usage.{cleaned, made, usage_of_good, usage, weight}
use Rattle.values.specs.Numbers.{total}
use Rattle.storage_simulation.specs.code.Law.{KeepsGoods, output_usage, pair_weight, site_usage}
use Rattle.storage_simulation.proofs.FollowingLemmas.{both, by_bool, false_of, is_itself, or_left}
use Rattle.storage_simulation.proofs.SumsLemmas.{total_same}
use Rattle.storage_simulation.proofs.LawLemmas.{pair_part, pair_place}

total_split : (a b : ℕ) (w : ℕ → ℕ) → total (a + b) w ≡ total a w + total b (λ k. w (a + k))
unfolding total
total_split a zero w = let e : a + 0 ≡ a = omega arith in let h = ap (λ (n : ℕ). total n w) e in omega (arith, h)
total_split a (suc b) w =
    let e : a + suc b ≡ suc (a + b) = omega arith in
    let h = ap (λ (n : ℕ). total n w) e in
    let less = total_split a b w in omega (arith, h, less)

total_zero : (n : ℕ) (w : ℕ → ℕ) → ((k : ℕ) → k < n → w k ≡ 0) → total n w ≡ 0
unfolding total
total_zero zero w h = refl
total_zero (suc n) w h = let less = total_zero n w (λ k l. h k (omega arith)) in omega (arith, less, h n (omega arith))

past_pairs : (p : Plan) (t : ℕ) → nat_lt (count_pairs p + t) (count_pairs p) ≡ false
past_pairs p t = false_of (nat_lt (count_pairs p + t) (count_pairs p)) (λ e. let l : count_pairs p + t < count_pairs p = ltb-true (count_pairs p + t) (count_pairs p) e in omega (arith, l))

back : (a k : ℕ) → (a + k) - a ≡ k
back a k = omega arith

delivery_place : (p : Plan) (t s : ℕ) → lies_at p (count_pairs p + t) s ≡ (is_delivery p t && nat_eq s (count_sites p))
unfolding lies_at
delivery_place p t s =
    ap (λ (b : Bool). cond b (is_at p (count_pairs p + t) s) (is_delivery p ((count_pairs p + t) - count_pairs p) && nat_eq s (count_sites p))) (past_pairs p t)
    ∙ ap (λ (n : ℕ). is_delivery p n && nat_eq s (count_sites p)) (back (count_pairs p) t)

delivery_size : (p : Plan) (t : ℕ) → good_size p (count_pairs p + t) ≡ delivered_size p t
unfolding good_size
delivery_size p t =
    ap (λ (b : Bool). cond b (pair_size p (pair p (count_pairs p + t))) (delivered_size p ((count_pairs p + t) - count_pairs p))) (past_pairs p t)
    ∙ ap (delivered_size p) (back (count_pairs p) t)

and_false : (b : Bool) → (b && false) ≡ false
and_false true = refl
and_false false = refl

and_true : (b : Bool) → (b && true) ≡ b
and_true true = refl
and_true false = refl

pub usage_at_site : (p : Plan) (size : ℕ → ℕ) (front : List ℕ) (s : ℕ) → IsProper p → s < count_sites p → usage p size front s ≡ site_usage p size front s
unfolding goods
usage_at_site p size front s proper l =
    let all = total_split (count_pairs p) (cond (is_some (output_bound p)) (count_tasks p) 0) (usage_of_good p size front s) in
    let none = total_zero (cond (is_some (output_bound p)) (count_tasks p) 0) (λ k. usage_of_good p size front s (count_pairs p + k)) (λ k m.
    ap (λ (b : Bool). cond b (weight p size front (count_pairs p + k)) 0) (delivery_place p k s ∙ ap (λ (b : Bool). is_delivery p k && b) off ∙ and_false (is_delivery p k))) in
    let same = total_same (usage_of_good p size front s) (λ q. cond (is_at p q s) (pair_weight p size front q) 0) (count_pairs p) (λ q m. pair_part p size front s q proper m) in
    omega (arith, all, none, same)
  where
    off : nat_eq s (count_sites p) ≡ false
    off = false_of (nat_eq s (count_sites p)) (λ e. let at = eqb-true s (count_sites p) e in omega (arith, at, l))

makes_delivery : (p : Plan) (t : ℕ) → is_delivery p t ≡ true → has (makes p t) (count_pairs p + t) ≡ true
unfolding makes
makes_delivery p t h = ap (λ (b : Bool). has (cond b ((count_pairs p + t) ∷ []) (writes p t)) (count_pairs p + t)) h ∙ or_left (nat_eq (count_pairs p + t) (count_pairs p + t)) false (is_itself (count_pairs p + t))

made_delivery : (p : Plan) (t : ℕ) (front : List ℕ) → KeepsGoods p → is_delivery p t ≡ true → made p front (count_pairs p + t) ≡ has front t
made_delivery p t [] keeps d = refl
made_delivery p t (u ∷ us) keeps d = ap (λ (b : Bool). b || made p us (count_pairs p + t)) its ∙ ap (λ (b : Bool). nat_eq u t || b) (made_delivery p t us keeps d)
  where
    mine : has (makes p t) (count_pairs p + t) ≡ true
    mine = makes_delivery p t d

    its : has (makes p u) (count_pairs p + t) ≡ nat_eq u t
    its = by_bool (nat_eq u t)
        (λ e. (ap (λ (n : ℕ). has (makes p n) (count_pairs p + t)) (eqb-true u t e) ∙ mine) ∙ sym e)
        (λ e. false_of (has (makes p u) (count_pairs p + t)) (λ h. let same = keeps.one_maker u t (count_pairs p + t) h mine in let yes : nat_eq u t ≡ true = ap (λ (n : ℕ). nat_eq n t) same ∙ is_itself t in cc) ∙ sym e)

no_clean : (p : Plan) (t : ℕ) (front : List ℕ) → KeepsGoods p → cleaned p front (count_pairs p + t) ≡ false
no_clean p t [] keeps = refl
no_clean p t (u ∷ us) keeps = ap (λ (b : Bool). b || cleaned p us (count_pairs p + t)) (false_of (cleans p u (count_pairs p + t)) (λ h. let l = keeps.cleans_pairs u (count_pairs p + t) h in omega (arith, l))) ∙ no_clean p t us keeps

-- a pair lies at a site
pair_off : (p : Plan) (q : ℕ) → IsProper p → is_at p q (count_sites p) ≡ false
unfolding is_at
pair_off p q proper = by_place p.pairs q proper.tables.in_range.pairs
  where
    off : (x : Pair) → is_pair_in_range p x ≡ true → nat_eq x.site.0 (count_sites p) ≡ false
    off x h = false_of (nat_eq x.site.0 (count_sites p)) (λ e. let same = eqb-true x.site.0 (count_sites p) e in let l : x.site.0 < length p.sites = ltb-true x.site.0 (length p.sites) (both (nat_lt x.site.0 (length p.sites)) (nat_lt x.file.0 (length p.files)) h).0 in omega (arith, same, l))

    by_place : (ps : List Pair) (i : ℕ) → list_all (is_pair_in_range p) ps ≡ true → is_on_site (slice_get ps i) (count_sites p) ≡ false
    by_place [] i all = refl
    by_place (x ∷ xs) zero all = off x (both (is_pair_in_range p x) (list_all (is_pair_in_range p) xs) all).0
    by_place (x ∷ xs) (suc i) all = by_place xs i (both (is_pair_in_range p x) (list_all (is_pair_in_range p) xs) all).1

some_is : (o : Option ℕ) (n b : ℕ) → o ≡ Some b → cond (is_some o) n 0 ≡ n
some_is None n b e = absurd cc
some_is (Some c) n b e = refl

delivered_part : (p : Plan) (size : ℕ → ℕ) (front : List ℕ) (t : ℕ) → KeepsGoods p → usage_of_good p size front (count_sites p) (count_pairs p + t) ≡ cond (is_delivery p t) (cond (has front t) (delivered_size p t) (size (count_pairs p + t))) 0
delivered_part p size front t keeps =
    ap (λ (c : Bool). cond c (weight p size front (count_pairs p + t)) 0) (delivery_place p t (count_sites p) ∙ ap (λ (c : Bool). is_delivery p t && c) (is_itself (count_sites p)) ∙ and_true (is_delivery p t))
    ∙ by_kind (is_delivery p t) refl
  where
    by_kind : (c : Bool) → is_delivery p t ≡ c → cond c (weight p size front (count_pairs p + t)) 0 ≡ cond c (cond (has front t) (delivered_size p t) (size (count_pairs p + t))) 0
    by_kind false e = refl
    by_kind true e =
        ap (λ (c : Bool). cond c 0 (cond (made p front (count_pairs p + t)) (good_size p (count_pairs p + t)) (size (count_pairs p + t)))) (no_clean p t front keeps)
        ∙ ap (λ (c : Bool). cond c (good_size p (count_pairs p + t)) (size (count_pairs p + t))) (made_delivery p t front keeps e)
        ∙ ap (λ (n : ℕ). cond (has front t) n (size (count_pairs p + t))) (delivery_size p t)

pub usage_at_output : (p : Plan) (size : ℕ → ℕ) (front : List ℕ) (b : ℕ) → IsProper p → KeepsGoods p → output_bound p ≡ Some b → usage p size front (count_sites p) ≡ output_usage p size front
unfolding goods
usage_at_output p size front b proper keeps out =
    let bound = some_is (output_bound p) (count_tasks p) b out in
    let all = total_split (count_pairs p) (cond (is_some (output_bound p)) (count_tasks p) 0) (usage_of_good p size front (count_sites p)) in
    let none = total_zero (count_pairs p) (usage_of_good p size front (count_sites p)) (λ q l. ap (λ (c : Bool). cond c (weight p size front q) 0) (pair_place p q (count_sites p) l ∙ pair_off p q proper)) in
    let rest = ap (λ (n : ℕ). total n (λ t. usage_of_good p size front (count_sites p) (count_pairs p + t))) bound in
    let same = total_same (λ t. usage_of_good p size front (count_sites p) (count_pairs p + t)) (λ t. cond (is_delivery p t) (cond (has front t) (delivered_size p t) (size (count_pairs p + t))) 0) (count_tasks p) (λ t l. delivered_part p size front t keeps) in
    omega (arith, all, none, rest, same)
