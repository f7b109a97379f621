-- What every Legal record keeps; a Choice exists where nothing runs.
use Rattle.std.proofs.Common.{◌≡◌, ℕ, zero, suc, ◌≤◌, ◌<◌, ◌||◌, Bool, true, false, cond, eqb, eqb-true, inl, inr, List, [], ◌∷◌, ◌++◌, length, take, refl, sym, ap, subst, ◌∙◌, arith}
use Rattle.std.specs.Prelude.{Option, Some, None, ◌⊎◌, is_some}
use Rattle.std.proofs.lemmas.List.Folds.{list_any-append}
use Rattle.lease_rules.proofs.FitLemmas.{fit_more, fit_stays}
use Rattle.lease_rules.proofs.ListLemmas.{by_bool, has_head, has_without, or_left, or_right, without_absent, without_gone}
use Rattle.lease_rules.specs.Choice.{IsCandidate, IsChoice, IsFreshAmong, Safe, start_event}
use Rattle.lease_rules.specs.code.Law.{FitsFromStart, HasStorageLaws, IsSound, IsSoundState}
use Rattle.lease_rules.specs.Legal.{Allowed, AreDeclared, IsOpen, LegalFrom}
use Rattle.lease_rules.specs.State.{State, after, ended, held_after, now_from, opened, order_or, order_with, put, reserved_for, rest_after, started, stored_among, without}
use Rattle.lease_rules.specs.code.State.{runs}
use Rattle.plan_core.specs.Numbers.{has}
use Rattle.plan_core.specs.Words.{cleans, count_tasks, is_clean, kind, parents}
use Rattle.plan_core.specs.declared.plan.Plan.{Plan}
use Rattle.run_record.specs.Events.{Again, Arrive, Clean, End, Event, Fail, Grant, Regrant}
use Rattle.storage_simulation.specs.Fitting.{Fits}
use Rattle.storage_simulation.specs.code.Ordering.{IsOrder}
use Rattle.storage_simulation.specs.Ordering.{all_wait, at_start, nothing_held}
use Rattle.std.proofs.Math.Logic.{∥∥₁_elim}
use mathlib.Core.Bool.{Bool-set}
use Rattle.storage_simulation.specs.Goods.{good_size, makes}
use Rattle.storage_simulation.specs.Standings.{held_size, sizes, waits}
use Rattle.storage_simulation.specs.Usage.{cleaned, made}
use Rattle.storage_simulation.specs.declared.standing.Held.{Held}
use Rattle.storage_simulation.specs.declared.standing.Held.TheVariants.{Nothing, Reserved, Stored}
use Rattle.storage_simulation.specs.declared.standing.Phase.{Phase}
use Rattle.storage_simulation.specs.declared.standing.Phase.TheVariants.{Ended, Runs, Waits}

-- tests of one place
pub split_by : {X : Type 0} {P : Type 0} (b : Bool) (x y z : X) → cond b x y ≡ z → (b ≡ true → x ≡ z → P) → (b ≡ false → y ≡ z → P) → P
split_by true x y z e f g = f refl e
split_by false x y z e f g = g refl e

pub put_at : {X : Type 0} (f : ℕ → X) (t : ℕ) (x : X) → put f t x t ≡ x
put_at f t x = ap (λ (b : Bool). cond b x (f t)) (let e : eqb t t ≡ true = grind arith in e)

pub put_off : {X : Type 0} (f : ℕ → X) (t : ℕ) (x : X) (u : ℕ) → eqb t u ≡ false → put f t x u ≡ f u
put_off f t x u e = ap (λ (b : Bool). cond b x (f u)) e

pub is_waiting : (x : Phase) → waits x ≡ true → x ≡ Waits
is_waiting Waits h = refl
is_waiting Runs h = absurd cc
is_waiting Ended h = absurd cc

pub not_both : (x : Phase) → waits x ≡ true → ended x ≡ true → ⊥
not_both Waits h k = absurd cc
not_both Runs h k = absurd cc
not_both Ended h k = absurd cc

-- a task that isn't the one that waits goes on to have ended
still_ended : (f : ℕ → Phase) (t v : ℕ) (x : Phase) → waits (f t) ≡ true → ended (f v) ≡ true → ended (put f t x v) ≡ true
still_ended f t v x w e = by_bool (eqb t v)
    (λ at. absurd (not_both (f v) (ap (λ (n : ℕ). waits (f n)) (sym (eqb-true t v at)) ∙ w) e))
    (λ off. ap ended (put_off f t x v off) ∙ e)

ends_more : (f : ℕ → Phase) (t v : ℕ) → ended (f v) ≡ true → ended (put f t Ended v) ≡ true
ends_more f t v e = by_test (eqb t v)
  where
    by_test : (b : Bool) → ended (cond b Ended (f v)) ≡ true
    by_test true = refl
    by_test false = e

cond_same : {X : Type 0} (b : Bool) (x y z : X) → x ≡ z → y ≡ z → cond b x y ≡ z
cond_same true x y z e f = e
cond_same false x y z e f = f

small_reserved : (b : Bool) (d : ℕ) (h : Held) → held_size h ≤ d → held_size (cond b (Reserved d) h) ≤ d
small_reserved true d h m = omega arith
small_reserved false d h m = m

-- what a Clean makes of the held goods
abbrev pub cleaned_held : Plan → ℕ → (ℕ → Held) → ℕ → Held
cleaned_held p t held = λ g. cond (cleans p t g) Nothing (held g)

-- a waiting task begins, and the tasks left are those of another list
begun_sound : (p : Plan) (phase : ℕ → Phase) (held : ℕ → Held) (rest left : List ℕ) (t : ℕ) → IsSound p phase held rest → waits (phase t) ≡ true → is_clean p t ≡ false → t < count_tasks p
    → ((u : ℕ) → has (parents p t) u ≡ true → ended (phase u) ≡ true)
    → Fits p (put phase t Runs) (reserved_for p t held) left
    → ((u : ℕ) → u < count_tasks p → put phase t Runs u ≡ Waits → has left u ≡ true)
    → IsSound p (put phase t Runs) (reserved_for p t held) left
begun_sound p phase held rest left t sound waiting kind task parents_ended fits all = record {
  safe = fits;
  all_left = all;
  running_held = λ u g r m. split_by (eqb t u) Runs (phase u) Runs r
      (λ at e. ap (λ (b : Bool). cond b (Reserved (good_size p g)) (held g)) (ap (λ (n : ℕ). has (makes p n) g) (eqb-true t u at) ∙ m))
      (λ off e. cond_same (has (makes p t) g) (Reserved (good_size p g)) (held g) (Reserved (good_size p g)) refl (sound.running_held u g e m));
  running_parents = λ u v r m. split_by (eqb t u) Runs (phase u) Runs r
      (λ at e. still_ended phase t v Runs waiting (parents_ended v (ap (λ (n : ℕ). has (parents p n) v) (eqb-true t u at) ∙ m)))
      (λ off e. still_ended phase t v Runs waiting (sound.running_parents u v e m));
  running_kind = λ u r. split_by (eqb t u) Runs (phase u) Runs r
      (λ at e. (ap (is_clean p) (sym (eqb-true t u at)) ∙ kind, subst (λ (n : ℕ). n < count_tasks p) (eqb-true t u at) task))
      (λ off e. sound.running_kind u e);
  small = λ g. small_reserved (has (makes p t) g) (good_size p g) (held g) (sound.small g);
}

-- a running task ends, and what it makes counts at most what was declared
settled_sound : (p : Plan) (phase : ℕ → Phase) (held new : ℕ → Held) (rest : List ℕ) (t : ℕ) → HasStorageLaws p → IsSound p phase held rest → phase t ≡ Runs
    → ((g : ℕ) → has (makes p t) g ≡ false → new g ≡ held g) → ((g : ℕ) → has (makes p t) g ≡ true → sizes new g ≤ good_size p g)
    → IsSound p (put phase t Ended) new rest
settled_sound p phase held new rest t proper sound runs others its = record {
  safe = fit_stays p phase (put phase t Ended) held new rest same less sound.safe;
  all_left = λ u l w. split_by (eqb t u) Ended (phase u) Waits w (λ at e. absurd cc) (λ off e. sound.all_left u l e);
  running_held = λ u g r m. split_by (eqb t u) Ended (phase u) Runs r (λ at e. absurd cc)
      (λ off e. others g (not_its u g off m) ∙ sound.running_held u g e m);
  running_parents = λ u v r m. split_by (eqb t u) Ended (phase u) Runs r (λ at e. absurd cc)
      (λ off e. ends_more phase t v (sound.running_parents u v e m));
  running_kind = λ u r. split_by (eqb t u) Ended (phase u) Runs r (λ at e. absurd cc) (λ off e. sound.running_kind u e);
  small = λ g. by_bool (has (makes p t) g) (λ m. its g m) (λ m. let e = ap held_size (others g m) in omega (arith, e, sound.small g));
}
  where
    same : (u : ℕ) → waits (put phase t Ended u) ≡ waits (phase u)
    same u = by_test (eqb t u) refl
      where
        by_test : (b : Bool) → eqb t u ≡ b → waits (cond b Ended (phase u)) ≡ waits (phase u)
        by_test true e = sym (ap (λ (n : ℕ). waits (phase n)) (sym (eqb-true t u e)) ∙ ap waits runs)
        by_test false e = refl

    less : (g : ℕ) → sizes new g ≤ sizes held g
    less g = by_bool (has (makes p t) g)
        (λ m. let was : sizes held g ≡ good_size p g = ap held_size (sound.running_held t g runs m) in omega (arith, was, its g m))
        (λ m. let e = ap held_size (others g m) in omega (arith, e))

    not_its : (u g : ℕ) → eqb t u ≡ false → has (makes p u) g ≡ true → has (makes p t) g ≡ false
    not_its u g off m = by_bool (has (makes p t) g) (λ k. absurd (let at : t ≡ u = proper.one_maker t u g k m in let e : eqb t t ≡ false = ap (eqb t) at ∙ off in let f : eqb t t ≡ true = grind arith in cc)) (λ k. k)

-- a Clean is swept
swept_sound : (p : Plan) (phase : ℕ → Phase) (held : ℕ → Held) (rest : List ℕ) (t : ℕ) → HasStorageLaws p → IsSound p phase held rest
    → waits (phase t) ≡ true → ((u : ℕ) → has (parents p t) u ≡ true → ended (phase u) ≡ true)
    → Fits p (put phase t Ended) (cleaned_held p t held) (without t rest)
    → IsSound p (put phase t Ended) (cleaned_held p t held) (without t rest)
swept_sound p phase held rest t proper sound waiting parents_ended fits = record {
  safe = fits;
  all_left = λ u l w. split_by (eqb t u) Ended (phase u) Waits w (λ at e. absurd cc) (λ off e. has_without t u rest (sound.all_left u l e) off);
  running_held = λ u g r m. split_by (eqb t u) Ended (phase u) Runs r (λ at e. absurd cc)
      (λ off e. ap (λ (b : Bool). cond b Nothing (held g)) (not_its u g e m) ∙ sound.running_held u g e m);
  running_parents = λ u v r m. split_by (eqb t u) Ended (phase u) Runs r (λ at e. absurd cc)
      (λ off e. ends_more phase t v (sound.running_parents u v e m));
  running_kind = λ u r. split_by (eqb t u) Ended (phase u) Runs r (λ at e. absurd cc) (λ off e. sound.running_kind u e);
  small = λ g. less (cleans p t g) (held g) (good_size p g) (sound.small g);
}
  where
    not_its : (u g : ℕ) → phase u ≡ Runs → has (makes p u) g ≡ true → cleans p t g ≡ false
    not_its u g r m = by_bool (cleans p t g) (λ k. absurd (let e = parents_ended u (proper.cleans_after t u g k m) in let f : ended (phase u) ≡ false = ap ended r in cc)) (λ k. k)

    less : (b : Bool) (h : Held) (d : ℕ) → held_size h ≤ d → held_size (cond b Nothing h) ≤ d
    less true h d m = omega arith
    less false h d m = m

-- a task waits again, at the front
again_sound : (p : Plan) (phase : ℕ → Phase) (held : ℕ → Held) (rest : List ℕ) (t : ℕ) → IsSound p phase held rest
    → ((u : ℕ) → has (parents p t) u ≡ true → ended (phase u) ≡ true)
    → ended (phase t) ≡ false
    → Fits p (put phase t Waits) held (t ∷ without t rest)
    → IsSound p (put phase t Waits) held (t ∷ without t rest)
again_sound p phase held rest t sound parents_ended unended fits = record {
  safe = fits;
  all_left = λ u l w. split_by (eqb t u) Waits (phase u) Waits w (λ at e. or_left (eqb t u) (has (without t rest) u) at) (λ off e. or_right (eqb t u) (has (without t rest) u) (has_without t u rest (sound.all_left u l e) off));
  running_held = λ u g r m. split_by (eqb t u) Waits (phase u) Runs r (λ at e. absurd cc) (λ off e. sound.running_held u g e m);
  running_parents = λ u v r m. split_by (eqb t u) Waits (phase u) Runs r (λ at e. absurd cc) (λ off e. kept v (sound.running_parents u v e m));
  running_kind = λ u r. split_by (eqb t u) Waits (phase u) Runs r (λ at e. absurd cc) (λ off e. sound.running_kind u e);
  small = sound.small;
}
  where
    kept : (v : ℕ) → ended (phase v) ≡ true → ended (put phase t Waits v) ≡ true
    kept v e = by_bool (eqb t v)
        (λ at. absurd (let f : ended (phase t) ≡ true = ap (λ (n : ℕ). ended (phase n)) (eqb-true t v at) ∙ e in cc))
        (λ off. ap ended (put_off phase t Waits v off) ∙ e)

-- weights, of their parts
pub grant_weight : (ct c mt mf : Bool) (d : ℕ) (h : Held) → ct ≡ false → cond c 0 (cond mf d (held_size (cond mt (Reserved d) h))) ≤ cond (ct || c) 0 (cond (mt || mf) d (held_size h))
grant_weight true c mt mf d h e = absurd cc
grant_weight false true mt mf d h e = omega arith
grant_weight false false true true d h e = omega arith
grant_weight false false true false d h e = omega arith
grant_weight false false false true d h e = omega arith
grant_weight false false false false d h e = omega arith

pub clean_weight : (ct c mt mf : Bool) (d : ℕ) (h : Held) → mt ≡ false → (ct ≡ true → mf ≡ false) → cond c 0 (cond mf d (held_size (cond ct Nothing h))) ≤ cond (ct || c) 0 (cond (mt || mf) d (held_size h))
clean_weight ct c true mf d h e f = absurd cc
clean_weight true true false mf d h e f = omega arith
clean_weight true false false true d h e f = absurd (let g = f refl in cc)
clean_weight true false false false d h e f = omega arith
clean_weight false true false mf d h e f = omega arith
clean_weight false false false true d h e f = omega arith
clean_weight false false false false d h e f = omega arith

again_weight : (ct c mt mf : Bool) (d x : ℕ) → ct ≡ false → (mt ≡ true → x ≡ d) → cond (ct || c) 0 (cond (mt || mf) d x) ≤ cond c 0 (cond mf d x)
again_weight true c mt mf d x e f = absurd cc
again_weight false true mt mf d x e f = omega arith
again_weight false false true true d x e f = omega arith
again_weight false false true false d x e f = let g = f refl in omega (arith, g)
again_weight false false false true d x e f = omega arith
again_weight false false false false d x e f = omega arith

pub unclean_weight : (ct c mt mf : Bool) (d : ℕ) (h : Held) → mt ≡ false → cond (ct || c) 0 (cond (mt || mf) d (held_size h)) ≤ cond c 0 (cond mf d (held_size (cond ct Nothing h)))
unclean_weight ct c true mf d h e = absurd cc
unclean_weight true true false mf d h e = omega arith
unclean_weight true false false mf d h e = omega arith
unclean_weight false true false mf d h e = omega arith
unclean_weight false false false true d h e = omega arith
unclean_weight false false false false d h e = omega arith

-- what a Run's sizes store
stored_none : (xs ns : List ℕ) (g : ℕ) (h : Held) → has xs g ≡ false → stored_among xs ns g h ≡ h
stored_none [] ns g h e = refl
stored_none (x ∷ xs) [] g h e = refl
stored_none (x ∷ xs) (n ∷ ns) g h e = by_test (eqb x g) (stored_none xs ns g h) e
  where
    by_test : (b : Bool) → (has xs g ≡ false → stored_among xs ns g h ≡ h) → (b || has xs g) ≡ false → cond b (Stored n) (stored_among xs ns g h) ≡ h
    by_test true less k = absurd cc
    by_test false less k = less k

stored_small : (p : Plan) (xs ns : List ℕ) (g : ℕ) (h : Held) → AreDeclared p xs ns → has xs g ≡ true → held_size (stored_among xs ns g h) ≤ good_size p g
stored_small p [] ns g h w e = absurd cc
stored_small p (x ∷ xs) [] g h w e = absurd w
stored_small p (x ∷ xs) (n ∷ ns) g h w e = by_test (eqb x g) refl (stored_small p xs ns g h w.1) e
  where
    by_test : (b : Bool) → eqb x g ≡ b → (has xs g ≡ true → held_size (stored_among xs ns g h) ≤ good_size p g) → (b || has xs g) ≡ true → held_size (cond b (Stored n) (stored_among xs ns g h)) ≤ good_size p g
    by_test true e less k = let same : good_size p x ≡ good_size p g = ap (good_size p) (eqb-true x g e) in omega (arith, w.0, same)
    by_test false e less k = less k

arrived_small : (b : Bool) (n d : ℕ) (h : Held) → b ≡ true → n ≤ d → held_size (cond b (Stored n) h) ≤ d
arrived_small true n d h e l = l
arrived_small false n d h e l = absurd cc

-- the Choice stands in rest
pub has_split : (before later : List ℕ) (t : ℕ) → has (before ++ t ∷ later) t ≡ true
has_split before later t = list_any-append (λ y. eqb y t) before (t ∷ later) ∙ or_right (has before t) (has (t ∷ later) t) (has_head t later)

pub choice_in : (p : Plan) (s : State) (t : ℕ) → IsChoice p s t → has s.rest t ≡ true
choice_in p s t choice = ap (λ (xs : List ℕ). has xs t) choice.is ∙ has_split choice.before choice.later t

pub fresh_among : (p : Plan) (s : State) (n : ℕ) (xs : List ℕ) (t : ℕ) → IsFreshAmong p s n xs t → IsCandidate p s t × (is_some (order_with p s t) ≡ true) × (has xs t ≡ true)
fresh_among p s n [] t h = absurd h
fresh_among p s zero (x ∷ xs) t h = absurd h
fresh_among p s (suc n) (x ∷ xs) t (inl h) = let m = fresh_among p s (suc n) xs t h.1 in (m.0, m.1, or_right (eqb x t) (has xs t) m.2)
fresh_among p s (suc n) (x ∷ xs) t (inr (inl h)) = (subst (λ (y : ℕ). IsCandidate p s y) h.2 h.0, subst (λ (y : ℕ). is_some (order_with p s y) ≡ true) h.2 h.1, or_left (eqb x t) (has xs t) (eqb_of x t h.2))
  where
    eqb_of : (a b : ℕ) → a ≡ b → eqb a b ≡ true
    eqb_of a b e = grind arith
fresh_among p s (suc n) (x ∷ xs) t (inr (inr h)) = let m = fresh_among p s n xs t h.2 in (m.0, m.1, or_right (eqb x t) (has xs t) m.2)

some_is : (o : Option (List ℕ)) → is_some o ≡ true → (ts : List ℕ) × (o ≡ Some ts)
some_is None h = absurd cc
some_is (Some ts) h = (ts, refl)

not_waiting : (x : Phase) → ended x ≡ true → waits x ≡ false
not_waiting Waits h = absurd cc
not_waiting Runs h = absurd cc
not_waiting Ended h = refl

not_ended : (x : Phase) → waits x ≡ true → ended x ≡ false
not_ended Waits h = refl
not_ended Runs h = absurd cc
not_ended Ended h = absurd cc

pub false_of : (b : Bool) → (b ≡ true → ⊥) → b ≡ false
false_of true f = absurd (f refl)
false_of false f = refl

pub safe_grant : (p : Plan) (s : State) (w t : ℕ) → is_clean p t ≡ false → Safe p (after p s (start_event p w t)) → Fits p (put s.phase t Runs) (reserved_for p t s.held) (without t s.rest)
safe_grant p s w t kind safe = subst (λ (b : Bool). Safe p (after p s (cond b (Clean w t) (Grant w t)))) kind safe

pub safe_clean : (p : Plan) (s : State) (w t : ℕ) → is_clean p t ≡ true → Safe p (after p s (start_event p w t)) → Fits p (put s.phase t Ended) (cleaned_held p t s.held) (without t s.rest)
safe_clean p s w t kind safe = subst (λ (b : Bool). Safe p (after p s (cond b (Clean w t) (Grant w t)))) kind safe

-- an Again puts its task at the front: of a running task
again_open : (p : Plan) (s : State) (t : ℕ) → HasStorageLaws p → IsSoundState p s → s.phase t ≡ Runs → Fits p (put s.phase t Waits) s.held (t ∷ without t s.rest)
again_open p s t proper sound runs =
    fit_more p s.phase (put s.phase t Waits) s.held s.held t (without t s.rest) (sound.running_kind t runs).1
    (λ u off. ap waits (put_off s.phase t Waits u off))
    (ap waits (put_at s.phase t Waits))
    (without_gone t s.rest)
    (λ u m. not_waiting (put s.phase t Waits u) (stays u (sound.running_parents t u runs m)))
    (sound.safe.within 0 (omega arith))
    (λ k g. again_weight (cleans p t g) (cleaned p (take k (without t s.rest)) g) (has (makes p t) g) (made p (take k (without t s.rest)) g) (good_size p g) (sizes s.held g)
    (proper.cleans_only t g (sound.running_kind t runs).0) (λ m. ap held_size (sound.running_held t g runs m)))
    (subst (λ (xs : List ℕ). Fits p s.phase s.held xs) (sym (without_absent t s.rest absent)) sound.safe)
  where
    absent : has s.rest t ≡ false
    absent = false_of (has s.rest t) (λ h. let w = sound.safe.waiting t h in let r : waits (s.phase t) ≡ false = ap waits runs in absurd cc)

    stays : (u : ℕ) → ended (s.phase u) ≡ true → ended (put s.phase t Waits u) ≡ true
    stays u e = by_bool (eqb t u)
        (λ at. absurd (let f : ended (s.phase t) ≡ true = ap (λ (n : ℕ). ended (s.phase n)) (eqb-true t u at) ∙ e in let r : ended (s.phase t) ≡ false = ap ended runs in cc))
        (λ off. ap ended (put_off s.phase t Waits u off) ∙ e)

-- and of a Clean that is the Choice
again_clean : (p : Plan) (s : State) (t : ℕ) → HasStorageLaws p → IsSoundState p s → is_clean p t ≡ true → IsChoice p s t → Fits p (put s.phase t Waits) s.held (t ∷ without t s.rest)
again_clean p s t proper sound kind choice =
    fit_more p (put s.phase t Ended) (put s.phase t Waits) (cleaned_held p t s.held) s.held t (without t s.rest) (sound.safe.tasks t (choice_in p s t choice))
    (λ u off. ap waits (put_off s.phase t Waits u off) ∙ sym (ap waits (put_off s.phase t Ended u off)))
    (ap waits (put_at s.phase t Waits))
    (without_gone t s.rest)
    (λ u m. not_waiting (put s.phase t Waits u) (still_ended s.phase t u Waits waiting (choice.can.parents_ended u m)))
    (sound.safe.within 0 (omega arith))
    (λ k g. unclean_weight (cleans p t g) (cleaned p (take k (without t s.rest)) g) (has (makes p t) g) (made p (take k (without t s.rest)) g) (good_size p g) (s.held g) (proper.cleans_make t g kind))
    (safe_clean p s 0 t kind (choice.can.leaves_safe 0))
  where
    waiting : waits (s.phase t) ≡ true
    waiting = sound.safe.waiting t (choice_in p s t choice)

-- every allowed entry keeps what is kept
pub sound_more : (p : Plan) (s : State) (e : Event) → HasStorageLaws p → IsSoundState p s → Allowed p s e → IsSoundState p (after p s e)
sound_more p s (Grant w t) proper sound allowed =
    begun_sound p s.phase s.held s.rest (without t s.rest) t sound (sound.safe.waiting t (choice_in p s t allowed.2)) allowed.1 (sound.safe.tasks t (choice_in p s t allowed.2)) allowed.2.can.parents_ended
    (safe_grant p s w t allowed.1 (allowed.2.can.leaves_safe w))
    (λ u l h. split_by (eqb t u) Runs (s.phase u) Waits h (λ at e. absurd cc) (λ off e. has_without t u s.rest (sound.all_left u l e) off))
sound_more p s (Regrant w t) proper sound allowed =
    let parts = fresh_among p s 4 s.rest t allowed.1.among in
    let order = some_is (order_with p s t) parts.1 in
    begun_sound p s.phase s.held s.rest (rest_after p s (Regrant w t)) t sound (sound.safe.waiting t parts.2) parts.0.no_clean (sound.safe.tasks t parts.2) parts.0.parents_ended
    (subst (λ (o : Option (List ℕ)). Fits p (put s.phase t Runs) (reserved_for p t s.held) (order_or o s.rest)) (sym order.1) (proper.order_fits (started p s t) order.0 parts.0.within order.1))
    (λ u l h. subst (λ (o : Option (List ℕ)). has (order_or o s.rest) u ≡ true) (sym order.1) (proper.order_all (started p s t) order.0 order.1 u l (ap waits h)))
sound_more p s (Arrive w t n) proper sound allowed =
    settled_sound p s.phase s.held (held_after p (Arrive w t n) s.held) s.rest t proper sound allowed.2.runs
    (λ g m. ap (λ (b : Bool). cond b (Stored n) (s.held g)) m)
    (λ g m. arrived_small (has (makes p t) g) n (good_size p g) (s.held g) m (allowed.3 g m))
sound_more p s (End w t ns) proper sound allowed =
    settled_sound p s.phase s.held (held_after p (End w t ns) s.held) s.rest t proper sound allowed.2.runs
    (λ g m. stored_none (makes p t) ns g (s.held g) m)
    (λ g m. stored_small p (makes p t) ns g (s.held g) allowed.3 m)
sound_more p s (Clean w t) proper sound allowed =
    swept_sound p s.phase s.held s.rest t proper sound (sound.safe.waiting t (choice_in p s t allowed.2)) allowed.2.can.parents_ended
    (safe_clean p s w t allowed.1 (allowed.2.can.leaves_safe w))
sound_more p s (Again w t c ns) proper sound allowed = by_kind allowed.1
  where
    by_kind : IsOpen s w t ⊎ ((is_clean p t ≡ true) × IsChoice p s t) → IsSoundState p (after p s (Again w t c ns))
    by_kind (inl o) = again_sound p s.phase s.held s.rest t sound (λ u m. sound.running_parents t u o.runs m) (ap ended o.runs) (again_open p s t proper sound o.runs)
    by_kind (inr k) = again_sound p s.phase s.held s.rest t sound k.1.can.parents_ended (not_ended (s.phase t) (sound.safe.waiting t (choice_in p s t k.1))) (again_clean p s t proper sound k.0 k.1)
sound_more p s (Fail w t c ns) proper sound allowed = sound

-- an order has all tasks
pub order_all : (p : Plan) (order : List ℕ) → Fits p all_wait nothing_held order → ∥ IsOrder p at_start order ∥₁ → FitsFromStart p order
order_all p order fits is = record { fits = fits; all = λ t l. ∥∥₁_elim is (Bool-set _ _) (λ o. o.all t l) }

pub sound_opened : (p : Plan) (order : List ℕ) → FitsFromStart p order → IsSoundState p (opened order)
sound_opened p order fit = record {
  safe = fit.fits;
  all_left = λ u l h. fit.all u l;
  running_held = λ t g r m. absurd cc;
  running_parents = λ t u r m. absurd cc;
  running_kind = λ t r. absurd cc;
  small = λ g. omega arith;
}

-- after every entry of a Legal record
pub sound_after : (p : Plan) → HasStorageLaws p → (s : State) (r : List Event) → IsSoundState p s → LegalFrom p s r → (k : ℕ) → IsSoundState p (now_from p s (take k r))
sound_after p proper s [] sound legal zero = sound
sound_after p proper s [] sound legal (suc k) = sound
sound_after p proper s (e ∷ r) sound legal zero = sound
sound_after p proper s (e ∷ r) sound legal (suc k) = sound_after p proper (after p s e) r (sound_more p s e proper sound legal.0) legal.1 k

pub declared_long : (p : Plan) (xs ns : List ℕ) → AreDeclared p xs ns → length ns ≡ length xs
declared_long p [] [] h = refl
declared_long p [] (n ∷ ns) h = absurd h
declared_long p (x ∷ xs) [] h = absurd h
declared_long p (x ∷ xs) (n ∷ ns) h = let e = declared_long p xs ns h.1 in omega (arith, e)
