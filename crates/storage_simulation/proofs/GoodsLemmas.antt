-- Where goods lie.
use Rattle.std.proofs.Common.{◌≡◌, ℕ, ◌+◌, ◌-◌, ◌<◌, ◌≤◌, ◌&&◌, ◌⊎◌, inl, inr, Bool, true, false, cond, nat_eq, nat_lt, refl, arith, eqb-true}
use Rattle.std.specs.Prelude.{Option, Some, None, slice_get, is_some}
use Rattle.std.proofs.lemmas.Bool.{cases_lt, ltb-true, lt-ltb}
use Rattle.std.proofs.lemmas.Option.{slice_get_within}
use Rattle.plan_core.specs.declared.plan.Plan.{Plan}
use Rattle.plan_core.specs.declared.plan.Task.{Task}
use Rattle.plan_core.specs.Words.{count_pairs, count_tasks, is_at, kind, kind_in, output_bound}
use Rattle.storage_simulation.specs.Goods.{count_sites, goods, is_delivery, is_delivery_kind, lies_at, places}
use Rattle.storage_simulation.proofs.FollowingLemmas.{both}

pub delivery_below : (p : Plan) (t : ℕ) → is_delivery p t ≡ true → t < count_tasks p
unfolding is_delivery kind
delivery_below p t h = by_task (slice_get p.tasks t) refl h
  where
    by_task : (o : Option Task) → slice_get p.tasks t ≡ o → is_delivery_kind (kind_in o) ≡ true → t < count_tasks p
    by_task None e k = absurd cc
    by_task (Some x) e k = slice_get_within p.tasks t x e

-- what lies at a place is a good
pub lies_below : (p : Plan) (g s : ℕ) → s < places p → lies_at p g s ≡ true → g < goods p
unfolding lies_at places goods
lies_below p g s l h = by_pair (nat_lt g (count_pairs p)) refl h
  where
    by_bound : (o : Option ℕ) → s < count_sites p + cond (is_some o) 1 0 → s ≡ count_sites p → g - count_pairs p < count_tasks p → count_pairs p ≤ g → g < count_pairs p + cond (is_some o) (count_tasks p) 0
    by_bound None m e n past = absurd (omega (arith, m, e))
    by_bound (Some b) m e n past = omega (arith, n, past)

    past_pairs : nat_lt g (count_pairs p) ≡ false → count_pairs p ≤ g
    past_pairs e = by_case (cases_lt g (count_pairs p))
      where
        by_case : (g < count_pairs p) ⊎ (count_pairs p ≤ g) → count_pairs p ≤ g
        by_case (inl m) = absurd (let yes : nat_lt g (count_pairs p) ≡ true = lt-ltb g (count_pairs p) m in cc)
        by_case (inr m) = m

    by_pair : (b : Bool) → nat_lt g (count_pairs p) ≡ b → cond b (is_at p g s) (is_delivery p (g - count_pairs p) && nat_eq s (count_sites p)) ≡ true → g < count_pairs p + cond (is_some (output_bound p)) (count_tasks p) 0
    by_pair true e k = let m : g < count_pairs p = ltb-true g (count_pairs p) e in omega (arith, m)
    by_pair false e k =
        let parts = both (is_delivery p (g - count_pairs p)) (nat_eq s (count_sites p)) k in
        by_bound (output_bound p) l (eqb-true s (count_sites p) parts.1) (delivery_below p (g - count_pairs p) parts.0) (past_pairs e)
