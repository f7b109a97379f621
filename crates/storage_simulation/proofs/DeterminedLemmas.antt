-- At most one task is placed next, so there is at most one order, or one Exceeds.
use Rattle.std.proofs.Common.{◌≡◌, ℕ, zero, suc, ◌+◌, ◌<◌, ◌≤◌, ◌⊎◌, inl, inr, Bool, true, false, List, [], ◌∷◌, ◌++◌, length, take, get_or, refl, sym, ap, subst, ◌∙◌, arith}
use Rattle.std.specs.Prelude.{Some}
use Rattle.std.proofs.lemmas.List.{take_more, take_all}
use Rattle.std.proofs.lemmas.Bool.{cases_order}
use Rattle.plan_core.specs.declared.plan.Plan.{Plan}
use Rattle.plan_core.specs.Words.{is_clean}
use Rattle.storage_simulation.specs.declared.fitting.Exceeds.{Exceeds}
use Rattle.storage_simulation.specs.code.Goods.{place}
use Rattle.storage_simulation.specs.Goods.{place_bound}
use Rattle.storage_simulation.specs.Usage.{usage}
use Rattle.storage_simulation.specs.Ordering.{Progress, size, comes, goes, is_done}
use Rattle.storage_simulation.specs.code.Ordering.{IsOpen, IsStep, AreSteps, IsOrder, IsExceeds}

false_true : (b : Bool) → b ≡ false → b ≡ true → ⊥
false_true true e f = absurd cc
false_true false e f = absurd cc

pub not_below : (t u : ℕ) → (t < u → ⊥) → (u < t → ⊥) → t ≡ u
not_below t u f g = by_order (cases_order t u) f g
  where
    by_order : ((t ≡ u) ⊎ ((t < u) ⊎ (u < t))) → (t < u → ⊥) → (u < t → ⊥) → t ≡ u
    by_order (inl e) f g = e
    by_order (inr (inl a)) f g = absurd (f a)
    by_order (inr (inr b)) f g = absurd (g b)

step_same : (p : Plan) (st : Progress) (front : List ℕ) (t u : ℕ) → IsStep p st front t → IsStep p st front u → t ≡ u
step_same p st front t u (inl c) (inl d) = not_below t u (λ l. false_true (is_clean p t) (d.lowest t l c.opens) c.clean) (λ l. false_true (is_clean p u) (c.lowest u l d.opens) d.clean)
step_same p st front t u (inl c) (inr d) = absurd (false_true (is_clean p t) (d.no_clean t c.opens) c.clean)
step_same p st front t u (inr c) (inl d) = absurd (false_true (is_clean p u) (c.no_clean u d.opens) d.clean)
step_same p st front t u (inr c) (inr d) = both (comes p st t) (comes p st u) (goes p st front u) (goes p st front t) (c.least u d.opens d.fits) (d.least t c.opens c.fits)
  where
    both : (a b x y : ℕ) → ((a + x < b + y) ⊎ ((a + x ≡ b + y) × (t ≤ u))) → ((b + y < a + x) ⊎ ((b + y ≡ a + x) × (u ≤ t))) → t ≡ u
    both a b x y (inl l) (inl m) = absurd (omega arith)
    both a b x y (inl l) (inr m) = absurd (omega (arith, m.0))
    both a b x y (inr l) (inl m) = absurd (omega (arith, l.0))
    both a b x y (inr l) (inr m) = omega (arith, l.1, m.1)

front_same : (p : Plan) (st : Progress) (ts us : List ℕ) → AreSteps p st ts → AreSteps p st us → (k : ℕ) → k ≤ length ts → k ≤ length us → take k ts ≡ take k us
front_same p st ts us a b zero l m = refl
front_same p st ts us a b (suc k) l m =
    let less = front_same p st ts us a b k (omega arith) (omega arith) in
    let here : get_or ts k 0 ≡ get_or us k 0 = step_same p st (take k us) (get_or ts k 0) (get_or us k 0) (subst (λ (f : List ℕ). IsStep p st f (get_or ts k 0)) less (a k (omega arith))) (b k (omega arith)) in
    let one = take_more ts k 0 (omega arith) in
    let two = take_more us k 0 (omega arith) in
    let next : suc k ≡ k + 1 = omega arith in
    ap (λ (n : ℕ). take n ts) next ∙ one ∙ ap (λ (f : List ℕ). f ++ get_or ts k 0 ∷ []) less ∙ ap (λ (x : ℕ). take k us ++ x ∷ []) here ∙ sym two ∙ ap (λ (n : ℕ). take n us) (sym next)

same_long : (p : Plan) (st : Progress) (ts us : List ℕ) → AreSteps p st ts → AreSteps p st us → length ts ≡ length us → ts ≡ us
same_long p st ts us a b e = sym (take_all (length ts) ts (omega arith)) ∙ front_same p st ts us a b (length ts) (omega arith) (omega (arith, e)) ∙ take_all (length ts) us (omega (arith, e))

-- the step of a longer list after a shorter one
step_after : (p : Plan) (st : Progress) (ts us : List ℕ) → AreSteps p st ts → AreSteps p st us → length ts < length us → IsStep p st ts (get_or us (length ts) 0)
step_after p st ts us a b l =
    let same : take (length ts) us ≡ ts = sym (front_same p st ts us a b (length ts) (omega arith) (omega arith)) ∙ take_all (length ts) ts (omega arith) in
    subst (λ (f : List ℕ). IsStep p st f (get_or us (length ts) 0)) same (b (length ts) l)

pub step_opens : (p : Plan) (st : Progress) (front : List ℕ) (t : ℕ) → IsStep p st front t → IsOpen p st front t
step_opens p st front t (inl c) = c.opens
step_opens p st front t (inr c) = c.opens

none_after_all : (p : Plan) (st : Progress) (ts us : List ℕ) → IsOrder p st ts → AreSteps p st us → length ts < length us → ⊥
none_after_all p st ts us o b l =
    let open_there = step_opens p st ts _ (step_after p st ts us o.steps b l) in
    false_true (is_done st ts (get_or us (length ts) 0)) open_there.waits (o.all _ open_there.in_range)

none_after_exceeds : (p : Plan) (st : Progress) (e : Exceeds) (us : List ℕ) → (x : IsExceeds p st e) → AreSteps p st us → length x.front < length us → ⊥
none_after_exceeds p st e us x b l = by_step (step_after p st x.front us x.steps b l)
  where
    by_step : {t : ℕ} → IsStep p st x.front t → ⊥
    by_step {t} (inl c) = false_true (is_clean p t) (x.stuck.no_clean t c.opens) c.clean
    by_step {t} (inr c) = x.stuck.none_fits t c.opens c.fits

pub order_same : (p : Plan) (st : Progress) (ts us : List ℕ) → IsOrder p st ts → IsOrder p st us → ts ≡ us
order_same p st ts us o q = same_long p st ts us o.steps q.steps (not_below (length ts) (length us) (none_after_all p st ts us o q.steps) (none_after_all p st us ts q o.steps))

pub never_both : (p : Plan) (st : Progress) (ts : List ℕ) (e : Exceeds) → IsOrder p st ts → IsExceeds p st e → ⊥
never_both p st ts e o x =
    let at : length ts ≡ length x.front = not_below (length ts) (length x.front) (none_after_all p st ts x.front o x.steps) (none_after_exceeds p st e ts x o.steps) in
    let same : ts ≡ x.front = same_long p st ts x.front o.steps x.steps at in
    false_true (is_done st ts e.task.0) (ap (λ (f : List ℕ). is_done st f e.task.0) same ∙ x.stuck.opens.waits) (o.all e.task.0 x.stuck.opens.in_range)

some_same : (a b : ℕ) → Some a ≡ Some b → a ≡ b
some_same a b e = cc

abbrev exceeds_at : ℕ → ℕ → ℕ → ℕ → Exceeds
exceeds_at a b c d = record { site = record { 0 = a }; task = record { 0 = b }; needed = c; bound = d }

exceeds_of : (e f : Exceeds) → e.site.0 ≡ f.site.0 → e.task.0 ≡ f.task.0 → e.needed ≡ f.needed → e.bound ≡ f.bound → e ≡ f
exceeds_of e f h k l m =
    ap (λ (x : ℕ). exceeds_at x e.task.0 e.needed e.bound) h ∙ ap (λ (x : ℕ). exceeds_at f.site.0 x e.needed e.bound) k
    ∙ ap (λ (x : ℕ). exceeds_at f.site.0 f.task.0 x e.bound) l ∙ ap (λ (x : ℕ). exceeds_at f.site.0 f.task.0 f.needed x) m

pub exceeds_same : (p : Plan) (st : Progress) (e f : Exceeds) → IsExceeds p st e → IsExceeds p st f → e ≡ f
exceeds_same p st e f x y =
    let at : length x.front ≡ length y.front = not_below (length x.front) (length y.front) (none_after_exceeds p st e y.front x y.steps) (none_after_exceeds p st f x.front y x.steps) in
    let same : x.front ≡ y.front = same_long p st x.front y.front x.steps y.steps at in
    let task : e.task.0 ≡ f.task.0 = not_below e.task.0 f.task.0
    (λ l. y.stuck.lowest e.task.0 l (subst (λ (z : List ℕ). IsOpen p st z e.task.0) same x.stuck.opens))
    (λ l. x.stuck.lowest f.task.0 l (subst (λ (z : List ℕ). IsOpen p st z f.task.0) (sym same) y.stuck.opens)) in
    let site : e.site.0 ≡ f.site.0 = some_same e.site.0 f.site.0 (sym x.stuck.site_is ∙ ap (place p) task ∙ y.stuck.site_is) in
    let needed : e.needed ≡ f.needed = x.stuck.needed_is ∙ ap (λ (z : List ℕ). usage p (size st) (z ++ e.task.0 ∷ []) e.site.0) same ∙ ap (λ (t : ℕ). usage p (size st) (y.front ++ t ∷ []) e.site.0) task ∙ ap (usage p (size st) (y.front ++ f.task.0 ∷ [])) site ∙ sym y.stuck.needed_is in
    let limit : e.bound ≡ f.bound = x.stuck.bound_is ∙ ap (place_bound p) site ∙ sym y.stuck.bound_is in
    exceeds_of e f site task needed limit
