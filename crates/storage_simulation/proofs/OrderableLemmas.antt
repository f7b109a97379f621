-- What an order takes of a proper plan.
use Rattle.std.proofs.Common.{◌≡◌, ℕ, ◌+◌, ◌-◌, ◌<◌, ◌||◌, ◌&&◌, Bool, true, false, cond, nat_eq, nat_lt, List, length, refl, sym, ap, subst, ◌∙◌, arith, eqb-true}
use Rattle.std.specs.Prelude.{Option, Some, None, is_some, slice_get}
use Rattle.std.proofs.lemmas.Bool.{ltb-true}
use Rattle.plan_core.specs.declared.plan.Plan.{Plan}
use Rattle.plan_core.specs.declared.plan.Pair.{Pair}
use Rattle.plan_core.specs.declared.plan.TaskKind.{TaskKind}
use Rattle.plan_core.specs.declared.plan.TaskKind.TheVariants.{Transfer, Run, Clean}
use Rattle.plan_core.specs.declared.plan.Target.TheVariants.{Site, Delivery}
use Rattle.plan_core.specs.Kinds.{kind_writes, jobs_make as job_makes, on_pair}
use Rattle.plan_core.specs.code.Numbers.{RisesFrom}
use Rattle.plan_core.specs.Numbers.{has}
use Rattle.plan_core.specs.code.Proper.{IsProper, are_jobs_below, is_source_below, is_parent}
use Rattle.plan_core.specs.Words.{cleans, count_pairs, count_tasks, is_at, kind, kind_cleans, kind_in, output_bound, pair, parents, reads, is_on_site, writes}
use Rattle.plan_core.specs.code.Words.{is_pair, pair_at}
use Rattle.storage_simulation.specs.code.Front.{IsOrderable}
use Rattle.storage_simulation.specs.Goods.{count_sites, is_delivery, is_delivery_kind, lies_at, places}
use Rattle.storage_simulation.specs.code.Goods.{kind_place, pair_site, place}
use Rattle.storage_simulation.specs.code.Law.{KeepsGoods}
use Rattle.storage_simulation.proofs.FollowingLemmas.{both, is_itself}
use Rattle.storage_simulation.proofs.LawLemmas.{KindsInRange, ListsInRange, Making, below_rises, below_test, by_pair, delivery, making, pair_place, writes_rise}

abbrev pub PairsInRange : Type 0
PairsInRange = (p : Plan) → IsProper p → (q s f : ℕ) → is_pair p q s f ≡ true → (s < length p.sites) × (f < length p.files)

abbrev pub ParentsInRange : Type 0
ParentsInRange = (p : Plan) → IsProper p → (t u : ℕ) → is_parent p u t ≡ true → u < count_tasks p

-- a site is a place
site_place : (p : Plan) (s : ℕ) → s < count_sites p → s < places p
unfolding places
site_place p s l = by (is_some (output_bound p))
  where
    by : (b : Bool) → s < count_sites p + cond b 1 0
    by true = omega (arith, l)
    by false = omega (arith, l)

output_place : (p : Plan) → is_some (output_bound p) ≡ true → count_sites p < places p
unfolding places
output_place p e = let one = ap (λ (b : Bool). count_sites p + cond b 1 0) e in omega (arith, one)

same_site : (a b : ℕ) → nat_eq a b ≡ true → Some a ≡ Some b
same_site a b e = ap (λ (n : ℕ). Some n) (eqb-true a b e)

-- a written pair lies at the site of the task
written_there : (p : Plan) (t q s : ℕ) → IsProper p → has (writes p t) q ≡ true → is_at p q s ≡ true → place p t ≡ Some s
unfolding writes place kind is_at
written_there p t q s proper h at = by_pair (slice_get p.pairs q) (below_test (count_pairs p) (λ x. on_pair (kind_writes p.jobs (kind_in (slice_get p.tasks t))) (slice_get p.pairs x)) q (ap (λ (xs : List ℕ). has xs q) (sym (proper.tasks t).writes) ∙ h)) at
  where
    at_site : (a b : ℕ) (c : Bool) → (nat_eq a b && c) ≡ true → nat_eq b s ≡ true → Some a ≡ Some s
    at_site a b c e k = same_site a b (both (nat_eq a b) c e).0 ∙ same_site b s k

    by_kind : (o : Option TaskKind) (y : Pair) → kind_writes p.jobs o y.site.0 y.file.0 ≡ true → nat_eq y.site.0 s ≡ true → kind_place p o ≡ Some s
    by_kind None y e k = absurd cc
    by_kind (Some (Transfer g from (Site a))) y e k = at_site a.0 y.site.0 (nat_eq g.0 y.file.0) e k
    by_kind (Some (Transfer g from Delivery)) y e k = absurd cc
    by_kind (Some (Run a js)) y e k = at_site a.0 y.site.0 (job_makes p.jobs js y.file.0) e k
    by_kind (Some (Clean c)) y e k = absurd cc

    by_pair : (o : Option Pair) → on_pair (kind_writes p.jobs (kind_in (slice_get p.tasks t))) o ≡ true → is_on_site o s ≡ true → kind_place p (kind_in (slice_get p.tasks t)) ≡ Some s
    by_pair None e k = absurd cc
    by_pair (Some y) e k = by_kind (kind_in (slice_get p.tasks t)) y e k

-- a delivery lies at the output
delivered_there : (p : Plan) (t g s : ℕ) → g ≡ count_pairs p + t → is_delivery p t ≡ true → s < places p → lies_at p g s ≡ true → place p t ≡ Some s
unfolding lies_at places place is_delivery
delivered_there p t g s e d l at = by_kind (kind p t) d (output s l here)
  where
    past : nat_lt g (count_pairs p) ≡ false
    past = grind (arith, e)

    here : s ≡ count_sites p
    here = eqb-true s (count_sites p) (both (is_delivery p (g - count_pairs p)) (nat_eq s (count_sites p)) (sym (ap (λ (b : Bool). cond b (is_at p g s) (is_delivery p (g - count_pairs p) && nat_eq s (count_sites p))) past) ∙ at)).1

    output : (s : ℕ) → s < count_sites p + cond (is_some (output_bound p)) 1 0 → s ≡ count_sites p → cond (is_some (output_bound p)) (Some (count_sites p)) None ≡ Some s
    output s l e = by (is_some (output_bound p)) l
      where
        by : (b : Bool) → s < count_sites p + cond b 1 0 → cond b (Some (count_sites p)) None ≡ Some s
        by true m = ap (λ (n : ℕ). Some n) (sym e)
        by false m = absurd (omega (arith, m, e))

    by_kind : (o : Option TaskKind) → is_delivery_kind o ≡ true → cond (is_some (output_bound p)) (Some (count_sites p)) None ≡ Some s → kind_place p o ≡ Some s
    by_kind None k m = absurd cc
    by_kind (Some (Transfer f from (Site a))) k m = absurd cc
    by_kind (Some (Transfer f from Delivery)) k m = m
    by_kind (Some (Run a js)) k m = absurd cc
    by_kind (Some (Clean q)) k m = absurd cc

-- a cleaned pair lies at the place of its Clean
cleaned_there : (p : Plan) (t g s : ℕ) → cleans p t g ≡ true → is_at p g s ≡ true → place p t ≡ Some s
unfolding place is_at pair
cleaned_there p t g s h at = by_kind (kind p t) h
  where
    by_pair : (o : Option Pair) → is_on_site o s ≡ true → pair_site o ≡ Some s
    by_pair None k = absurd cc
    by_pair (Some y) k = same_site y.site.0 s k

    by_kind : (o : Option TaskKind) → kind_cleans o g ≡ true → kind_place p o ≡ Some s
    by_kind None k = absurd cc
    by_kind (Some (Transfer f from to)) k = absurd cc
    by_kind (Some (Run a js)) k = absurd cc
    by_kind (Some (Clean q)) k = by_pair (slice_get p.pairs q.0) (ap (λ (n : ℕ). is_on_site (slice_get p.pairs n) s) (eqb-true q.0 g k) ∙ at)

some_same : (a b : ℕ) → Some a ≡ Some b → a ≡ b
some_same a b e = cc

place_in : KindsInRange → PairsInRange → (p : Plan) → IsProper p → (t s : ℕ) → place p t ≡ Some s → s < places p
unfolding place pair is_pair
place_in kinds pairs p proper t s h = by_kind (kind p t) refl h
  where
    at_site : (a : ℕ) → nat_lt a (length p.sites) ≡ true → Some a ≡ Some s → s < places p
    at_site a l e = let same = some_same a s e in let low = ltb-true a (length p.sites) l in site_place p s (omega (arith, low, same))

    at_output : (b : Bool) → is_some (output_bound p) ≡ b → cond b (Some (count_sites p)) None ≡ Some s → s < places p
    at_output true e k = let same = some_same (count_sites p) s k in let all = output_place p e in omega (arith, same, all)
    at_output false e k = absurd cc

    at_pair : (q : ℕ) (o : Option Pair) → slice_get p.pairs q ≡ o → pair_site o ≡ Some s → s < places p
    at_pair q None e k = absurd cc
    at_pair q (Some y) e k =
        let it : pair_at (slice_get p.pairs q) y.site.0 y.file.0 ≡ true = ap (λ (o : Option Pair). pair_at o y.site.0 y.file.0) e ∙ twice (nat_eq y.site.0 y.site.0) (nat_eq y.file.0 y.file.0) (is_itself y.site.0) (is_itself y.file.0) in
        let low = (pairs p proper q y.site.0 y.file.0 it).0 in
        let same = some_same y.site.0 s k in site_place p s (omega (arith, low, same))
      where
        twice : (a b : Bool) → a ≡ true → b ≡ true → (a && b) ≡ true
        twice true b m n = n
        twice false b m n = absurd cc

    by_kind : (o : Option TaskKind) → kind p t ≡ o → kind_place p o ≡ Some s → s < places p
    by_kind None e k = absurd cc
    by_kind (Some (Transfer f from (Site a))) e k =
        at_site a.0 (both (is_source_below (length p.sites) from) (nat_lt a.0 (length p.sites)) (both (nat_lt f.0 (length p.files)) (is_source_below (length p.sites) from && nat_lt a.0 (length p.sites)) (kinds p proper t (Transfer f from (Site a)) e)).1).1 k
    by_kind (Some (Transfer f from Delivery)) e k = at_output (is_some (output_bound p)) refl k
    by_kind (Some (Run a js)) e k = at_site a.0 (both (nat_lt a.0 (length p.sites)) (are_jobs_below (length p.jobs) js) (kinds p proper t (Run a js) e)).0 k
    by_kind (Some (Clean q)) e k = at_pair q.0 (slice_get p.pairs q.0) refl k

parents_rise : (p : Plan) → IsProper p → (t : ℕ) → RisesFrom 0 (parents p t)
parents_rise p proper t = subst (RisesFrom 0) (sym (proper.flow.parents t).listed) (below_rises (count_tasks p) (has (parents p t)))

pub orderable : ListsInRange → KindsInRange → PairsInRange → ParentsInRange → ((p : Plan) → IsProper p → KeepsGoods p) → (p : Plan) → IsProper p → IsOrderable p
orderable lists kinds pairs ups keep p proper = record {
  keeps = keep p proper;
  parents_rise = parents_rise p proper;
  parents_below = ups p proper;
  writes_rise = writes_rise p proper;
  writes_below = written_low;
  makes_there = λ t g s l h at. made_there t g s l at (making p t g h);
  cleans_there = λ t g s l h at. cleaned_there p t g s h (sym (pair_place p g s ((keep p proper).cleans_pairs t g h)) ∙ at);
  place_below = place_in kinds pairs p proper;
}
  where
    written_low : (t q : ℕ) → has (writes p t) q ≡ true → q < count_pairs p
    written_low t q h = lists p proper t q (right (has (reads p t) q) (has (writes p t) q) h)
      where
        right : (a b : Bool) → b ≡ true → (a || b) ≡ true
        right true b k = refl
        right false b k = k

    made_there : (t g s : ℕ) → s < places p → lies_at p g s ≡ true → Making p t g → place p t ≡ Some s
    made_there t g s l at (delivery d e) = delivered_there p t g s e d l at
    made_there t g s l at (by_pair d h) = written_there p t g s proper h (sym (pair_place p g s (written_low t g h)) ∙ at)
