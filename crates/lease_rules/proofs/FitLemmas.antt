-- An order that fits goes on to fit: where less is held; after the start of its first task; with a task put in front.
use Rattle.std.proofs.Common.{◌≡◌, ℕ, zero, suc, ◌≤◌, ◌<◌, ◌||◌, Bool, true, false, cond, eqb, eqb-true, List, [], ◌∷◌, length, take, get_or, refl, sym, ap, subst, ◌∙◌, arith}
use Rattle.lease_rules.proofs.ListLemmas.{once_more, once_parts, or_case, or_right}
use Rattle.lease_rules.proofs.TotalLemmas.{total_at_most}
use Rattle.lease_rules.specs.State.{now}
use Rattle.plan_core.specs.Numbers.{has}
use Rattle.plan_core.specs.Words.{count_tasks, parents}
use Rattle.plan_core.specs.declared.plan.Plan.{Plan}
use Rattle.storage_simulation.specs.Fitting.{Fits}
use Rattle.storage_simulation.specs.Following.{IsReady}
use Rattle.storage_simulation.specs.Goods.{good_size, goods, lies_at, place_bound}
use Rattle.storage_simulation.specs.Standings.{sizes, waits}
use Rattle.storage_simulation.specs.Usage.{IsWithin, cleaned, made, usage, weight}
use Rattle.storage_simulation.specs.declared.standing.Held.{Held}
use Rattle.storage_simulation.specs.declared.standing.Phase.{Phase}

cond_at_most : (b : Bool) (x y z : ℕ) → y ≤ z → cond b x y ≤ cond b x z
cond_at_most true x y z h = omega arith
cond_at_most false x y z h = h

cond_at_most_1 : (b : Bool) (x y z : ℕ) → y ≤ z → cond b y x ≤ cond b z x
cond_at_most_1 true x y z h = h
cond_at_most_1 false x y z h = omega arith

-- usages by the weights of the goods
pub usage_by_weight : (p : Plan) (low high : ℕ → ℕ) (front back : List ℕ) (s : ℕ) → ((g : ℕ) → weight p low front g ≤ weight p high back g) → usage p low front s ≤ usage p high back s
usage_by_weight p low high front back s h = total_at_most _ _ (goods p) (λ g l. cond_at_most_1 (lies_at p g s) 0 _ _ (h g))

pub usage_at_most : (p : Plan) (low high : ℕ → ℕ) (front : List ℕ) (s : ℕ) → ((g : ℕ) → low g ≤ high g) → usage p low front s ≤ usage p high front s
usage_at_most p low high front s h = usage_by_weight p low high front front s (λ g. cond_at_most (cleaned p front g) 0 _ _ (cond_at_most (made p front g) (good_size p g) _ _ (h g)))

-- where less is held, and the same tasks wait
pub fit_stays : (p : Plan) (old new : ℕ → Phase) (high low : ℕ → Held) (order : List ℕ) → ((u : ℕ) → waits (new u) ≡ waits (old u)) → ((g : ℕ) → sizes low g ≤ sizes high g) → Fits p old high order → Fits p new low order
fit_stays p old new high low order same h fit = record {
  tasks = fit.tasks;
  waiting = λ t m. same t ∙ fit.waiting t m;
  once = fit.once;
  within = λ k l s m. let less = usage_at_most p (sizes low) (sizes high) (take k order) s h in omega (arith, fit.within k l s m, less);
  ready = λ k l u m n. fit.ready k l u m (sym (same u) ∙ n);
}

-- the first task of an order starts
pub fit_tail : (p : Plan) (old new : ℕ → Phase) (high low : ℕ → Held) (t : ℕ) (ts : List ℕ)
    → ((u : ℕ) → eqb t u ≡ false → waits (new u) ≡ waits (old u)) → waits (new t) ≡ false
    → ((k g : ℕ) → weight p (sizes low) (take k ts) g ≤ weight p (sizes high) (t ∷ take k ts) g)
    → Fits p old high (t ∷ ts) → Fits p new low ts
fit_tail p old new high low t ts same starts weights fit = record {
  tasks = λ u m. fit.tasks u (or_right (eqb t u) (has ts u) m);
  waiting = λ u m. same u (other u m) ∙ fit.waiting u (or_right (eqb t u) (has ts u) m);
  once = (once_parts t ts fit.once).1;
  within = λ k l s m.
      let had : usage p (sizes high) (t ∷ take k ts) s ≤ place_bound p s = fit.within (suc k) (omega arith) s m in
      let less = usage_by_weight p (sizes low) (sizes high) (take k ts) (t ∷ take k ts) s (weights k) in
      omega (arith, had, less);
  ready = λ k l u m n. by_self u (eqb t u) refl n
      (λ off w. or_case (eqb t u) (has (take k ts) u) (fit.ready (suc k) (omega arith) u m w) (λ e. absurd (let f = off in cc)) (λ e. e));
}
  where
    other : (u : ℕ) → has ts u ≡ true → eqb t u ≡ false
    other u m = by_test (eqb t u) refl
      where
        by_test : (b : Bool) → eqb t u ≡ b → b ≡ false
        by_test false e = refl
        by_test true e = absurd (let off = (once_parts t ts fit.once).0 in let at = eqb-true t u e in let there : has ts t ≡ true = ap (has ts) at ∙ m in cc)

    by_self : {P : Type 0} (u : ℕ) (b : Bool) → eqb t u ≡ b → waits (new u) ≡ true → (eqb t u ≡ false → waits (old u) ≡ true → P) → P
    by_self u true e n f = absurd (let at = eqb-true t u e in let now : waits (new t) ≡ true = ap (λ (x : ℕ). waits (new x)) at ∙ n in cc)
    by_self u false e n f = f e (sym (same u e) ∙ n)

-- a task is put in front of an order
pub fit_more : (p : Plan) (old new : ℕ → Phase) (high low : ℕ → Held) (t : ℕ) (ts : List ℕ) → t < count_tasks p
    → ((u : ℕ) → eqb t u ≡ false → waits (new u) ≡ waits (old u)) → waits (new t) ≡ true → has ts t ≡ false
    → ((u : ℕ) → has (parents p t) u ≡ true → waits (new u) ≡ false)
    → IsWithin p (sizes low) []
    → ((k g : ℕ) → weight p (sizes low) (t ∷ take k ts) g ≤ weight p (sizes high) (take k ts) g)
    → Fits p old high ts → Fits p new low (t ∷ ts)
fit_more p old new high low t ts task same now absent ready within weights fit = record {
  tasks = λ u m. or_case (eqb t u) (has ts u) m (λ at. subst (λ (n : ℕ). n < count_tasks p) (eqb-true t u at) task) (λ is. fit.tasks u is);
  waiting = λ u m. by_self u (eqb t u) refl (or_case (eqb t u) (has ts u) m);
  once = once_more t ts absent fit.once;
  within = λ k. by_place k;
  ready = λ k. by_place_2 k;
}
  where
    by_self : (u : ℕ) (b : Bool) → eqb t u ≡ b → ((eqb t u ≡ true → waits (new u) ≡ true) → (has ts u ≡ true → waits (new u) ≡ true) → waits (new u) ≡ true) → waits (new u) ≡ true
    by_self u true e f = ap (λ (x : ℕ). waits (new x)) (sym (eqb-true t u e)) ∙ now
    by_self u false e f = f (λ g. absurd cc) (λ g. same u e ∙ fit.waiting u g)

    by_place : (k : ℕ) → k ≤ length (t ∷ ts) → IsWithin p (sizes low) (take k (t ∷ ts))
    by_place zero l s m = within s m
    by_place (suc k) l s m =
        let had = fit.within k (omega arith) s m in
        let less = usage_by_weight p (sizes low) (sizes high) (t ∷ take k ts) (take k ts) s (weights k) in
        omega (arith, had, less)

    by_place_2 : (k : ℕ) → k < length (t ∷ ts) → IsReady p new (take k (t ∷ ts)) (get_or (t ∷ ts) k 0)
    by_place_2 zero l u m n = absurd (let no = ready u m in cc)
    by_place_2 (suc k) l u m n = by_test (eqb t u) refl
      where
        by_test : (b : Bool) → eqb t u ≡ b → (b || has (take k ts) u) ≡ true
        by_test true e = refl
        by_test false e = fit.ready k (omega arith) u m (sym (same u e) ∙ n)
