-- What is stated as the order is one: each task of it is a right step.
use Rattle.std.proofs.Common.{◌≡◌, ℕ, zero, suc, ◌+◌, ◌<◌, ◌≤◌, ◌&&◌, ◌⊎◌, inl, inr, Bool, true, false, cond, nat_lt, List, [], ◌∷◌, ◌++◌, refl, ap, subst, ◌∙◌, arith}
use Rattle.std.specs.Prelude.{Option, Some, None}
use Rattle.std.proofs.lemmas.Bool.{cases_lt}
use Rattle.plan_core.specs.declared.plan.Plan.{Plan}
use Rattle.plan_core.specs.Numbers.{least, or_else}
use Rattle.plan_core.specs.Words.{count_tasks, is_clean}
use Rattle.plan_core.proofs.NumbersLemmas.{least_passes, none_least}
use Rattle.storage_simulation.specs.code.Ordering.{AreSteps, IsOpen, IsOrder, IsStep}
use Rattle.storage_simulation.specs.Ordering.{Progress, comes, goes, is_done}
use Rattle.storage_simulation.specs.OrderLaw.{all_below, all_placed, and_then, best_below, first_of, fits_after, go_on, is_open, less_by_score, stated_order, step}
use Rattle.storage_simulation.proofs.FollowingLemmas.{both, have_both}
use Rattle.storage_simulation.proofs.OrderLawLemmas.{comes_open, fits_is, is_fits, opens_come}
use Rattle.storage_simulation.proofs.StepsLemmas.{steps_more}

all_pass : (n : ℕ) (f : ℕ → Bool) → all_below n f ≡ true → (k : ℕ) → k < n → f k ≡ true
all_pass zero f h k l = absurd (omega arith)
all_pass (suc n) f h k l = by (cases_lt k n) (all_pass n f (both (all_below n f) (f n) h).0 k)
  where
    by : (k < n) ⊎ (n ≤ k) → (k < n → f k ≡ true) → f k ≡ true
    by (inl m) rest = rest m
    by (inr m) rest = let at : k ≡ n = omega (arith, l, m) in ap f at ∙ (both (all_below n f) (f n) h).1

same_some : (x t : ℕ) → ◌≡◌ {A = Option ℕ} (Some x) (Some t) → x ≡ t
same_some x t h = cc

-- none that is less passes
least_first : (n : ℕ) (f : ℕ → Bool) (t : ℕ) → least n f ≡ Some t → (u : ℕ) → u < t → f u ≡ false
unfolding least
least_first zero f t h u l = absurd cc
least_first (suc n) f t h u l = by (least n f) refl (f n) refl h (least_first n f)
  where
    by : (o : Option ℕ) → least n f ≡ o → (b : Bool) → f n ≡ b → or_else o (cond b (Some n) None) ≡ Some t → ((x : ℕ) → least n f ≡ Some x → (v : ℕ) → v < x → f v ≡ false) → f u ≡ false
    by (Some x) e b g k rest = rest x e u (let at : x ≡ t = same_some x t k in omega (arith, l, at))
    by None e true g k rest = none_least n f e u (let at : n ≡ t = same_some n t k in omega (arith, l, at))
    by None e false g k rest = absurd cc

-- ---- the least by score

abbrev less : (ℕ → ℕ) → (ℕ → ℕ) → ℕ → ℕ → Bool
less c g a b = nat_lt (c a + g b) (c b + g a)

abbrev IsNotAfter : (ℕ → ℕ) → (ℕ → ℕ) → ℕ → ℕ → Type 0
IsNotAfter c g t u = (c t + g u < c u + g t) ⊎ ((c t + g u ≡ c u + g t) × (t ≤ u))

record IsBest (n : ℕ) (f : ℕ → Bool) (c g : ℕ → ℕ) (t : ℕ) : Type 0 where
  pub below : t < n
  pub passes : f t ≡ true
  pub best : (u : ℕ) → u < n → f u ≡ true → IsNotAfter c g t u

clash : (b : Bool) → b ≡ true → b ≡ false → ⊥
clash true e h = absurd cc
clash false e h = absurd cc

was_less : (a b : ℕ) → nat_lt a b ≡ true → a < b
was_less a b h = grind (arith, h)

was_not : (a b : ℕ) → nat_lt a b ≡ false → b ≤ a
was_not a b h = grind (arith, h)

none_best : (n : ℕ) (f : ℕ → Bool) (c g : ℕ → ℕ) → best_below n f (less c g) ≡ None → (u : ℕ) → u < n → f u ≡ false
none_best zero f c g h u l = absurd (omega arith)
none_best (suc n) f c g h u l = by (best_below n f (less c g)) refl (f n) refl h (none_best n f c g)
  where
    at_last : (u < n) ⊎ (n ≤ u) → (u < n → f u ≡ false) → f n ≡ false → f u ≡ false
    at_last (inl m) rest e = rest m
    at_last (inr m) rest e = let at : u ≡ n = omega (arith, l, m) in ap f at ∙ e

    taken : (b : Bool) (x : ℕ) → cond b (Some n) (Some x) ≡ None → ⊥
    taken true x k = absurd cc
    taken false x k = absurd cc

    by : (o : Option ℕ) → best_below n f (less c g) ≡ o → (b : Bool) → f n ≡ b → first_of o b n (less c g) ≡ None → (best_below n f (less c g) ≡ None → (v : ℕ) → v < n → f v ≡ false) → f u ≡ false
    by None e false k h rest = at_last (cases_lt u n) (rest e u) k
    by None e true k h rest = absurd cc
    by (Some x) e false k h rest = absurd cc
    by (Some x) e true k h rest = absurd (taken (less c g n x) x h)

best_is : (n : ℕ) (f : ℕ → Bool) (c g : ℕ → ℕ) (t : ℕ) → best_below n f (less c g) ≡ Some t → IsBest n f c g t
best_is zero f c g t h = absurd cc
best_is (suc n) f c g t h = by (best_below n f (less c g)) refl (f n) refl h (best_is n f c g)
  where
    with_last : (x : ℕ) → ((u : ℕ) → u < n → f u ≡ true → IsNotAfter c g x u) → (f n ≡ true → IsNotAfter c g x n) → (u : ℕ) → u < suc n → f u ≡ true → IsNotAfter c g x u
    with_last x before last u l e = choose (cases_lt u n)
      where
        choose : (u < n) ⊎ (n ≤ u) → IsNotAfter c g x u
        choose (inl m) = before u m e
        choose (inr m) = let at : n ≡ u = omega (arith, l, m) in subst (IsNotAfter c g x) at (last (ap f at ∙ e))

    itself : IsNotAfter c g n n
    itself = inr (refl, omega arith)

    beaten : (x u : ℕ) → c n + g x < c x + g n → IsNotAfter c g x u → IsNotAfter c g n u
    beaten x u l (inl m) = inl (omega (arith, l, m))
    beaten x u l (inr m) = inl (let same = m.0 in omega (arith, l, same))

    stays : (x : ℕ) → x < n → c x + g n ≤ c n + g x → (c x + g n < c n + g x) ⊎ (c n + g x ≤ c x + g n) → IsNotAfter c g x n
    stays x l m (inl k) = inl k
    stays x l m (inr k) = inr (omega (arith, m, k), omega (arith, l))

    found : (x : ℕ) → x ≡ t → IsBest (suc n) f c g x → IsBest (suc n) f c g t
    found x at h = subst (IsBest (suc n) f c g) at h

    compared : (x : ℕ) (b : Bool) → less c g n x ≡ b → f n ≡ true → cond b (Some n) (Some x) ≡ Some t → IsBest n f c g x → IsBest (suc n) f c g t
    compared x true e k h best = found n (same_some n t h) (record {
      below = omega arith;
      passes = k;
      best = with_last n (λ u l p. beaten x u (was_less (c n + g x) (c x + g n) e) (best.best u l p)) (λ p. itself);
    })
    compared x false e k h best = found x (same_some x t h) (record {
      below = let l = best.below in omega (arith, l);
      passes = best.passes;
      best = with_last x best.best (λ p. stays x best.below (was_not (c n + g x) (c x + g n) e) (cases_lt (c x + g n) (c n + g x)));
    })

    by : (o : Option ℕ) → best_below n f (less c g) ≡ o → (b : Bool) → f n ≡ b → first_of o b n (less c g) ≡ Some t → ((x : ℕ) → best_below n f (less c g) ≡ Some x → IsBest n f c g x) → IsBest (suc n) f c g t
    by o e false k h rest =
        let best = rest t (e ∙ h) in
        record { below = let l = best.below in omega (arith, l); passes = best.passes; best = with_last t best.best (λ p. absurd (clash (f n) p k)) }
    by None e true k h rest = found n (same_some n t h) (record {
      below = omega arith;
      passes = k;
      best = with_last n (λ u l p. absurd (clash (f u) p (none_best n f c g e u l))) (λ p. itself);
    })
    by (Some x) e true k h rest = compared x (less c g n x) refl k h (rest x e)

-- ---- steps

second_off : (a b : Bool) → a ≡ true → (a && b) ≡ false → b ≡ false
second_off true b e h = h
second_off false b e h = absurd cc

step_so : (p : Plan) (st : Progress) (front : List ℕ) (t : ℕ) → step p st (less_by_score p st) front ≡ Some t → IsStep p st front t
step_so p st front t h = by (least (count_tasks p) cleans) refl h
  where
    cleans : ℕ → Bool
    cleans u = is_open p st front u && is_clean p u

    fitting : ℕ → Bool
    fitting u = is_open p st front u && fits_after p st front u

    not_clean : (u : ℕ) → IsOpen p st front u → cleans u ≡ false → is_clean p u ≡ false
    not_clean u opens off = second_off (is_open p st front u) (is_clean p u) (comes_open p st front u opens) off

    by : (o : Option ℕ) → least (count_tasks p) cleans ≡ o → or_else o (best_below (count_tasks p) fitting (less_by_score p st front)) ≡ Some t → IsStep p st front t
    by (Some x) e k =
        let is : least (count_tasks p) cleans ≡ Some t = e ∙ k in
        let passes = least_passes (count_tasks p) cleans t is in
        let parts = both (is_open p st front t) (is_clean p t) passes.1 in
        inl (record {
          opens = opens_come p st front t passes.0 parts.0;
          clean = parts.1;
          lowest = λ u l opens. not_clean u opens (least_first (count_tasks p) cleans t is u l);
        })
    by None e k =
        let best = best_is (count_tasks p) fitting (comes p st) (goes p st front) t k in
        let parts = both (is_open p st front t) (fits_after p st front t) best.passes in
        inr (record {
          no_clean = λ u opens. not_clean u opens (none_least (count_tasks p) cleans e u opens.in_range);
          opens = opens_come p st front t best.below parts.0;
          fits = is_fits p st front t parts.1;
          least = λ u opens fits. best.best u opens.in_range (have_both (is_open p st front u) (fits_after p st front u) (comes_open p st front u opens) (fits_is p st front u fits));
        })

ends_so : (p : Plan) (st : Progress) (front ts : List ℕ) → AreSteps p st front → all_placed p st front ≡ true → ◌≡◌ {A = Option (List ℕ)} (Some front) (Some ts) → IsOrder p st ts
ends_so p st front ts steps all is =
    let same : front ≡ ts = cc in
    subst (IsOrder p st) same (record { steps = steps; all = all_pass (count_tasks p) (is_done st front) all })

goes_so : (p : Plan) (st : Progress) (n : ℕ) (front ts : List ℕ) → AreSteps p st front → go_on p st (less_by_score p st) n front ≡ Some ts → IsOrder p st ts
goes_so p st zero front ts steps h = by (all_placed p st front) refl h
  where
    by : (b : Bool) → all_placed p st front ≡ b → cond b (Some front) None ≡ Some ts → IsOrder p st ts
    by true e k = ends_so p st front ts steps e k
    by false e k = absurd cc
goes_so p st (suc n) front ts steps h = by (all_placed p st front) refl h (λ t. goes_so p st n (front ++ t ∷ []) ts)
  where
    by_step : (o : Option ℕ) → step p st (less_by_score p st) front ≡ o → and_then o (λ t. go_on p st (less_by_score p st) n (front ++ t ∷ [])) ≡ Some ts → ((t : ℕ) → AreSteps p st (front ++ t ∷ []) → go_on p st (less_by_score p st) n (front ++ t ∷ []) ≡ Some ts → IsOrder p st ts) → IsOrder p st ts
    by_step None e k more = absurd cc
    by_step (Some t) e k more = more t (steps_more p st front t steps (step_so p st front t e)) k

    by : (b : Bool) → all_placed p st front ≡ b → cond b (Some front) (and_then (step p st (less_by_score p st) front) (λ t. go_on p st (less_by_score p st) n (front ++ t ∷ []))) ≡ Some ts → ((t : ℕ) → AreSteps p st (front ++ t ∷ []) → go_on p st (less_by_score p st) n (front ++ t ∷ []) ≡ Some ts → IsOrder p st ts) → IsOrder p st ts
    by true e k more = ends_so p st front ts steps e k
    by false e k more = by_step (step p st (less_by_score p st) front) refl k more

no_steps : (p : Plan) (st : Progress) → AreSteps p st []
no_steps p st k l = absurd (omega arith)

pub order_so : (p : Plan) (st : Progress) (ts : List ℕ) → stated_order p st ≡ Some ts → IsOrder p st ts
order_so p st ts h = goes_so p st (count_tasks p) [] ts (no_steps p st) h
