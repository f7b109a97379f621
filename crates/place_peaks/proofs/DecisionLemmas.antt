-- Whether a task of the order that is kept can start, by what the values before it say.
use Rattle.std.proofs.Common.{◌≡◌, ℕ, suc, ◌+◌, ◌-◌, ◌≤◌, ◌<◌, ◌||◌, ◌⊎◌, inl, inr, Bool, true, false, cond, eqb, List, [], ◌∷◌, ◌++◌, length, take, Some, refl, sym, ap, subst, ◌∙◌, arith, append_assoc, length-append}
use Rattle.std.specs.Prelude.{filter, not}
use Rattle.std.proofs.Math.Path.{fun_ext}
use Rattle.std.proofs.Math.Seq.{take-append-add}
use Rattle.std.proofs.lemmas.Bool.{cases_lt}
use Rattle.std.proofs.lemmas.List.{take-append-le, take_all}
use Rattle.place_peaks.proofs.Offered.{fit_of, follows_of, follows_without, once_parts, put_at, put_off, safe_grant, without_head}
use Rattle.lease_rules.specs.Choice.{CanStart, HaveParentsEnded, Safe}
use Rattle.lease_rules.specs.code.Law.{IsSoundState}
use Rattle.lease_rules.specs.State.{State, after, ended, put, reserved_for, without}
use Rattle.peak_tree.specs.Numbers.{greatest}
use Rattle.plan_core.specs.declared.plan.Plan.{Plan}
use Rattle.plan_core.specs.Numbers.{has}
use Rattle.plan_core.specs.Words.{is_clean, parents}
use Rattle.run_record.specs.Events.{Clean, Grant}
use Rattle.storage_simulation.specs.declared.standing.Held.{Held}
use Rattle.storage_simulation.specs.declared.standing.Held.TheVariants.{Reserved}
use Rattle.storage_simulation.specs.declared.standing.Phase.{Phase}
use Rattle.storage_simulation.specs.declared.standing.Phase.TheVariants.{Ended, Runs, Waits}
use Rattle.storage_simulation.specs.Fitting.{Fits}
use Rattle.storage_simulation.specs.Following.{AreOnce}
use Rattle.storage_simulation.specs.code.Following.{Follows}
use Rattle.storage_simulation.specs.Goods.{good_size, makes, place_bound, places}
use Rattle.storage_simulation.specs.code.Goods.{place}
use Rattle.storage_simulation.specs.Standings.{held_size, sizes, waits}
use Rattle.storage_simulation.specs.Usage.{usage}
use Rattle.place_peaks.specs.Peaks.{HasRules}
use Rattle.place_peaks.specs.Places.{brings, held_by, is_place, started, there}
use Rattle.place_peaks.specs.Tree.{IsUpTo}
use Rattle.place_peaks.specs.Values.{values}
use Rattle.place_peaks.proofs.PlacesLemmas.{brings_more, fronts_within, is_there, not_there, within_fronts}
use Rattle.place_peaks.proofs.UsageLemmas.{start_adds, start_usage, usage_away, usage_swap}

-- lists
pub no_wait : (x : Phase) → ended x ≡ true → waits x ≡ false
no_wait Waits h = absurd cc
no_wait Runs h = absurd cc
no_wait Ended h = refl

without_middle : (xs : List ℕ) (t : ℕ) (ys : List ℕ) → AreOnce (xs ++ t ∷ ys) → without t (xs ++ t ∷ ys) ≡ xs ++ ys
without_middle [] t ys h = without_head t ys h
without_middle (x ∷ xs) t ys h = by (eqb t x) refl (without_middle xs t ys (once_parts x (xs ++ t ∷ ys) h).1)
  where
    in_middle : (zs : List ℕ) → has (zs ++ t ∷ ys) t ≡ true
    in_middle [] = or (eqb t t) (has ys t) (let e : eqb t t ≡ true = grind arith in e)
      where
        or : (a b : Bool) → a ≡ true → (a || b) ≡ true
        or true b e = refl
        or false b e = absurd cc
    in_middle (z ∷ zs) = or (eqb z t) (has (zs ++ t ∷ ys) t) (in_middle zs)
      where
        or : (a b : Bool) → b ≡ true → (a || b) ≡ true
        or true b e = refl
        or false b e = e

    by : (b : Bool) → eqb t x ≡ b → without t (xs ++ t ∷ ys) ≡ xs ++ ys → cond (not b) (x ∷ without t (xs ++ t ∷ ys)) (without t (xs ++ t ∷ ys)) ≡ x ∷ (xs ++ ys)
    by false e less = ap (λ (l : List ℕ). x ∷ l) less
    by true e less = absurd (let same : t ≡ x = grind (arith, e) in let yes : has (xs ++ t ∷ ys) x ≡ true = ap (has (xs ++ t ∷ ys)) (sym same) ∙ in_middle xs in let no = (once_parts x (xs ++ t ∷ ys) h).0 in cc)

-- what is held after the grant, as a size
pub started_sizes : (p : Plan) (t : ℕ) (held : ℕ → Held) → sizes (reserved_for p t held) ≡ started p t (sizes held)
started_sizes p t held = fun_ext (λ g. by (has (makes p t) g) (good_size p g) (held g))
  where
    by : (b : Bool) (d : ℕ) (h : Held) → held_size (cond b (Reserved d) h) ≡ cond b d (held_size h)
    by true d h = refl
    by false d h = refl

-- What the values say of a task: what it brings fits into what is left of its place's bound, before the first task and after each before it.
pub record HasPlaceFor (p : Plan) (size : ℕ → ℕ) (left : ℕ → Bool) (xs : List ℕ) (t q : ℕ) : Type 0 where
  pub brings_less : brings p size q t ≤ place_bound p q
  pub base : usage p size [] q ≤ place_bound p q - brings p size q t
  pub tops : IsUpTo (place_bound p q - brings p size q t) (greatest (values (there p q) left (held_by p size q) [] xs))

-- what is the same for all lemmas here: the order that is kept is that of the tasks that are left, t among them
pub record IsSpot (p : Plan) (s : State) (left : ℕ → Bool) (xs : List ℕ) (t : ℕ) (ys : List ℕ) : Type 0 where
  pub rules : HasRules p
  pub sound : IsSoundState p s
  pub is : s.rest ≡ filter left xs ++ t ∷ filter left ys
  pub makes_goods : is_clean p t ≡ false
  pub parents_ended : HaveParentsEnded p s t

pub follows_spot : (p : Plan) (s : State) (left : ℕ → Bool) (xs : List ℕ) (t : ℕ) (ys : List ℕ) → IsSpot p s left xs t ys → Follows p s.phase (filter left xs ++ t ∷ filter left ys)
follows_spot p s left xs t ys spot = subst (Follows p s.phase) spot.is (follows_of p s.phase s.held s.rest spot.sound.safe)

pub not_waiting : (p : Plan) (s : State) (left : ℕ → Bool) (xs : List ℕ) (t : ℕ) (ys : List ℕ) → IsSpot p s left xs t ys → (u : ℕ) → has (parents p t) u ≡ true → waits (s.phase u) ≡ false
not_waiting p s left xs t ys spot u m = no_wait (s.phase u) (spot.parents_ended u m)

rest_then : (p : Plan) (s : State) (left : ℕ → Bool) (xs : List ℕ) (t : ℕ) (ys : List ℕ) → IsSpot p s left xs t ys → without t s.rest ≡ filter left xs ++ filter left ys
rest_then p s left xs t ys spot = ap (without t) spot.is ∙ without_middle (filter left xs) t (filter left ys) (follows_spot p s left xs t ys spot).once

-- what a front before t holds once t has started
pub then_holds : (p : Plan) (s : State) (left : ℕ → Bool) (xs : List ℕ) (t : ℕ) (ys : List ℕ) (q k : ℕ) → IsSpot p s left xs t ys → q < places p
    → usage p (sizes (reserved_for p t s.held)) (take k (filter left xs)) q ≡ usage p (sizes s.held) (take k (filter left xs)) q + brings p (sizes s.held) q t
then_holds p s left xs t ys q k spot l =
    let adds = start_adds p s.phase (sizes s.held) (filter left xs) (filter left ys) t q k spot.rules.keeps l (λ g. spot.rules.laws.cleans_only t g spot.makes_goods) (follows_spot p s left xs t ys spot) (not_waiting p s left xs t ys spot) in
    let more = brings_more p (sizes s.held) q t spot.sound.small in
    let same = start_usage p (sizes s.held) (take k (filter left xs)) t q (λ g. spot.rules.laws.cleans_only t g spot.makes_goods) in
    let is = ap (λ (f : ℕ → ℕ). usage p f (take k (filter left xs)) q) (started_sizes p t s.held) in
    omega (arith, adds.0, adds.1, more, same, is)

pub then_same : (p : Plan) (s : State) (left : ℕ → Bool) (xs : List ℕ) (t : ℕ) (ys : List ℕ) (q k : ℕ) → IsSpot p s left xs t ys → q < places p → (place p t ≡ Some q → ⊥)
    → usage p (sizes (reserved_for p t s.held)) (take k (filter left xs)) q ≡ usage p (sizes s.held) (take k (filter left xs)) q
then_same p s left xs t ys q k spot l off =
    ap (λ (f : ℕ → ℕ). usage p f (take k (filter left xs)) q) (started_sizes p t s.held)
    ∙ start_usage p (sizes s.held) (take k (filter left xs)) t q (λ g. spot.rules.laws.cleans_only t g spot.makes_goods)
    ∙ usage_away p (sizes s.held) (take k (filter left xs)) t q spot.rules.one l off

then_behind : (p : Plan) (s : State) (left : ℕ → Bool) (xs : List ℕ) (t : ℕ) (ys : List ℕ) (q : ℕ) (zs : List ℕ) → IsSpot p s left xs t ys
    → usage p (sizes (reserved_for p t s.held)) (filter left xs ++ zs) q ≡ usage p (sizes s.held) ((filter left xs ++ t ∷ []) ++ zs) q
then_behind p s left xs t ys q zs spot =
    ap (λ (f : ℕ → ℕ). usage p f (filter left xs ++ zs) q) (started_sizes p t s.held)
    ∙ start_usage p (sizes s.held) (filter left xs ++ zs) t q (λ g. spot.rules.laws.cleans_only t g spot.makes_goods)
    ∙ usage_swap p (sizes s.held) (filter left xs) zs t q

-- fronts of the order before and after
front_of_both : (bs cs : List ℕ) (k : ℕ) → (take k (bs ++ cs) ≡ take k bs) ⊎ ((j : ℕ) × (k ≡ length bs + j) × (take k (bs ++ cs) ≡ bs ++ take j cs))
front_of_both bs cs k = by (cases_lt k (length bs))
  where
    by : (k < length bs) ⊎ (length bs ≤ k) → (take k (bs ++ cs) ≡ take k bs) ⊎ ((j : ℕ) × (k ≡ length bs + j) × (take k (bs ++ cs) ≡ bs ++ take j cs))
    by (inl l) = inl (take-append-le k bs cs (omega (arith, l)))
    by (inr l) = let e : k ≡ length bs + (k - length bs) = omega (arith, l) in inr (k - length bs, e, ap (λ (n : ℕ). take n (bs ++ cs)) e ∙ take-append-add bs cs (k - length bs))

long_front : (bs cs : List ℕ) (t k : ℕ) → (n : ℕ) × (n ≤ length (bs ++ t ∷ cs)) × (take n (bs ++ t ∷ cs) ≡ take k bs) × (n ≤ length (bs ++ cs)) × (take n (bs ++ cs) ≡ take k bs)
long_front bs cs t k = by (cases_lt k (length bs))
  where
    long : length (bs ++ t ∷ cs) ≡ length bs + suc (length cs)
    long = length-append bs (t ∷ cs)

    short : length (bs ++ cs) ≡ length bs + length cs
    short = length-append bs cs

    by : (k < length bs) ⊎ (length bs ≤ k) → (n : ℕ) × (n ≤ length (bs ++ t ∷ cs)) × (take n (bs ++ t ∷ cs) ≡ take k bs) × (n ≤ length (bs ++ cs)) × (take n (bs ++ cs) ≡ take k bs)
    by (inl l) = (k, omega (arith, l, long), take-append-le k bs (t ∷ cs) (omega (arith, l)), omega (arith, l, short), take-append-le k bs cs (omega (arith, l)))
    by (inr l) = (length bs, omega (arith, long), take-append-le (length bs) bs (t ∷ cs) (omega arith) ∙ take_all (length bs) bs (omega arith) ∙ sym (take_all k bs l), omega (arith, short), take-append-le (length bs) bs cs (omega arith) ∙ take_all (length bs) bs (omega arith) ∙ sym (take_all k bs l))

-- A task that can start has a place: the values say so.
pub can_has_place : (p : Plan) (s : State) (left : ℕ → Bool) (xs : List ℕ) (t : ℕ) (ys : List ℕ) (q : ℕ) → IsSpot p s left xs t ys → place p t ≡ Some q → CanStart p s t → HasPlaceFor p (sizes s.held) left xs t q
can_has_place p s left xs t ys q spot at can = record {
  brings_less = let n = within 0 in omega (arith, n);
  base = less.0;
  tops = less.1;
}
  where
    low : q < places p
    low = spot.rules.one.place_below t q at

    fits : Fits p (put s.phase t Runs) (reserved_for p t s.held) (filter left xs ++ filter left ys)
    fits = subst (Fits p (put s.phase t Runs) (reserved_for p t s.held)) (rest_then p s left xs t ys spot) (safe_grant p s 0 t spot.makes_goods (can.leaves_safe 0))

    within : (k : ℕ) → usage p (sizes s.held) (take k (filter left xs)) q + brings p (sizes s.held) q t ≤ place_bound p q
    within k =
        let f = long_front (filter left xs) (filter left ys) t k in
        let had = fits.within f.0 f.3 q low in
        let same = ap (λ (zs : List ℕ). usage p (sizes (reserved_for p t s.held)) zs q) f.4 in
        let holds = then_holds p s left xs t ys q k spot low in
        omega (arith, had, same, holds)

    less : (usage p (sizes s.held) [] q ≤ place_bound p q - brings p (sizes s.held) q t) × IsUpTo (place_bound p q - brings p (sizes s.held) q t) (greatest (values (there p q) left (held_by p (sizes s.held) q) [] xs))
    less = within_fronts p (sizes s.held) left xs q (place_bound p q - brings p (sizes s.held) q t) (λ k. let n = within k in omega (arith, n))

-- A task with a place can start.
pub place_can : (p : Plan) (s : State) (left : ℕ → Bool) (xs : List ℕ) (t : ℕ) (ys : List ℕ) → IsSpot p s left xs t ys → ((q : ℕ) → place p t ≡ Some q → HasPlaceFor p (sizes s.held) left xs t q) → CanStart p s t
place_can p s left xs t ys spot room = record {
  parents_ended = spot.parents_ended;
  leaves_safe = λ w. subst (λ (b : Bool). Safe p (after p s (cond b (Clean w t) (Grant w t)))) (sym spot.makes_goods)
      (subst (Fits p (put s.phase t Runs) (reserved_for p t s.held)) (sym (rest_then p s left xs t ys spot)) fits);
}
  where
    fits : Fits p (put s.phase t Runs) (reserved_for p t s.held) (filter left xs ++ filter left ys)
    fits = fit_of p (put s.phase t Runs) (reserved_for p t s.held) (filter left xs ++ filter left ys)
        (subst (Follows p (put s.phase t Runs)) (rest_then p s left xs t ys spot)
        (follows_without p s.phase (put s.phase t Runs) t s.rest (λ u off. ap waits (put_off s.phase t Runs u off)) (ap waits (put_at s.phase t Runs)) (follows_of p s.phase s.held s.rest spot.sound.safe)))
        (λ k l q m. by_front k q l m (front_of_both (filter left xs) (filter left ys) k))
      where
        had : (n q : ℕ) → n ≤ length (filter left xs ++ t ∷ filter left ys) → q < places p → usage p (sizes s.held) (take n (filter left xs ++ t ∷ filter left ys)) q ≤ place_bound p q
        had n q l m = (subst (Fits p s.phase s.held) spot.is spot.sound.safe).within n l q m

        before : (k q : ℕ) → q < places p → (b : Bool) → is_place q (place p t) ≡ b → usage p (sizes (reserved_for p t s.held)) (take k (filter left xs)) q ≤ place_bound p q
        before k q m true e =
            let at = is_there q (place p t) e in
            let r = room q at in
            let up = fronts_within p (sizes s.held) left xs q (place_bound p q - brings p (sizes s.held) q t) spot.rules.one m r.base r.tops k in
            let holds = then_holds p s left xs t ys q k spot m in
            let low = r.brings_less in
            omega (arith, up, holds, low)
        before k q m false e =
            let f = long_front (filter left xs) (filter left ys) t k in
            let old = had f.0 q f.1 m in
            let same = ap (λ (zs : List ℕ). usage p (sizes s.held) zs q) f.2 in
            let now = then_same p s left xs t ys q k spot m (not_there q (place p t) e) in
            omega (arith, old, same, now)

        by_front : (k q : ℕ) → k ≤ length (filter left xs ++ filter left ys) → q < places p
            → (take k (filter left xs ++ filter left ys) ≡ take k (filter left xs)) ⊎ ((j : ℕ) × (k ≡ length (filter left xs) + j) × (take k (filter left xs ++ filter left ys) ≡ filter left xs ++ take j (filter left ys)))
            → usage p (sizes (reserved_for p t s.held)) (take k (filter left xs ++ filter left ys)) q ≤ place_bound p q
        by_front k q l m (inl e) =
            let is = ap (λ (zs : List ℕ). usage p (sizes (reserved_for p t s.held)) zs q) e in
            let b = before k q m (is_place q (place p t)) refl in omega (arith, is, b)
        by_front k q l m (inr h) =
            let is = ap (λ (zs : List ℕ). usage p (sizes (reserved_for p t s.held)) zs q) h.2 in
            let now = then_behind p s left xs t ys q (take h.0 (filter left ys)) spot in
            let one_more : take (k + 1) (filter left xs ++ t ∷ filter left ys) ≡ (filter left xs ++ t ∷ []) ++ take h.0 (filter left ys) =
            ap (λ (n : ℕ). take n (filter left xs ++ t ∷ filter left ys)) (let e = h.1 in let f : k + 1 ≡ length (filter left xs) + suc h.0 = omega (arith, e) in f) ∙ take-append-add (filter left xs) (t ∷ filter left ys) (suc h.0) ∙ sym (append_assoc (filter left xs) (t ∷ []) (take h.0 (filter left ys))) in
            let same = ap (λ (zs : List ℕ). usage p (sizes s.held) zs q) one_more in
            let long = length-append (filter left xs) (t ∷ filter left ys) in
            let short = length-append (filter left xs) (filter left ys) in
            let old = had (k + 1) q (omega (arith, l, long, short)) m in
            omega (arith, is, now, same, old)
