-- The start of a task of rest, and the first task that can start.
use Rattle.std.proofs.Common.{◌≡◌, ℕ, zero, suc, ◌+◌, ◌≤◌, ◌<◌, ◌||◌, Bool, true, false, cond, eqb, eqb-true, List, [], ◌∷◌, ◌++◌, length, take, drop, get_or, refl, sym, ap, subst, ◌∙◌, arith}
use Rattle.std.proofs.lemmas.List.{take_more}
use Rattle.std.proofs.lemmas.List.Folds.{list_any-append}
use Rattle.lease_rules.proofs.FitLemmas.{fit_tail, usage_by_weight}
use Rattle.lease_rules.proofs.ListLemmas.{any_without, front_of_without, has_head, has_take, has_without, once_without, or_case, place_of_without, without_has, without_head}
use Rattle.lease_rules.proofs.SoundLemmas.{clean_weight, cleaned_held, false_of, grant_weight, has_split, not_both, put_at, put_off}
use Rattle.lease_rules.proofs.SafeLemmas.{maker_of}
use Rattle.lease_rules.proofs.TotalLemmas.{total_same}
use Rattle.lease_rules.specs.Choice.{CanStart, HasNoChoice, HaveParentsEnded, IsChoice, Safe}
use Rattle.lease_rules.specs.code.Law.{HasStorageLaws, IsSoundState}
use Rattle.lease_rules.specs.State.{State, after, put, reserved_for, without}
use Rattle.plan_core.specs.Numbers.{below, has}
use Rattle.plan_core.specs.Words.{cleans, is_clean, kind}
use Rattle.plan_core.specs.declared.plan.Plan.{Plan}
use Rattle.run_record.specs.Events.{Clean, Grant}
use Rattle.storage_simulation.specs.Fitting.{Fits}
use Rattle.storage_simulation.specs.code.Following.{Follows}
use Rattle.storage_simulation.specs.Following.{IsReady}
use Rattle.storage_simulation.specs.Goods.{good_size, goods, lies_at, makes, place_bound}
use Rattle.storage_simulation.specs.Ordering.{size}
use Rattle.storage_simulation.specs.Standings.{sizes, waits}
use Rattle.storage_simulation.specs.Usage.{IsWithin, cleaned, made, usage}
use Rattle.storage_simulation.specs.declared.standing.Held.{Held}
use Rattle.storage_simulation.specs.declared.standing.Phase.{Phase}
use Rattle.storage_simulation.specs.declared.standing.Phase.TheVariants.{Ended, Runs}

usage_without : (p : Plan) (size : ℕ → ℕ) (t : ℕ) (front : List ℕ) (s : ℕ) → usage p size (t ∷ front) s ≡ usage p size (t ∷ without t front) s
usage_without p size t front s = total_same _ _ (goods p) (λ g l.
    ap (λ (c : Bool). cond (lies_at p g s) (cond c 0 (cond (made p (t ∷ front) g) (good_size p g) (size g))) 0) (any_without (λ u. cleans p u g) t front)
    ∙ ap (λ (m : Bool). cond (lies_at p g s) (cond (cleaned p (t ∷ without t front) g) 0 (cond m (good_size p g) (size g))) 0) (any_without (λ u. has (makes p u) g) t front))

-- a fit in two parts
pub follows_of : (p : Plan) (phase : ℕ → Phase) (held : ℕ → Held) (order : List ℕ) → Fits p phase held order → Follows p phase order
follows_of p phase held order fit = record { tasks = fit.tasks; waiting = fit.waiting; once = fit.once; ready = fit.ready }

pub fit_of : (p : Plan) (phase : ℕ → Phase) (held : ℕ → Held) (order : List ℕ) → Follows p phase order → ((k : ℕ) → k ≤ length order → IsWithin p (sizes held) (take k order)) → Fits p phase held order
fit_of p phase held order follows within = record { tasks = follows.tasks; waiting = follows.waiting; once = follows.once; ready = follows.ready; within = within }

-- a task of an order starts
pub follows_without : (p : Plan) (old new : ℕ → Phase) (t : ℕ) (order : List ℕ)
    → ((u : ℕ) → eqb t u ≡ false → waits (new u) ≡ waits (old u)) → waits (new t) ≡ false → Follows p old order → Follows p new (without t order)
follows_without p old new t order same starts order_follows = record {
  tasks = λ u m. order_follows.tasks u (without_has t u order m).0;
  waiting = λ u m. let h = without_has t u order m in same u h.1 ∙ order_follows.waiting u h.0;
  once = once_without t order order_follows.once;
  ready = λ k l.
      let f = place_of_without t order k l in
      subst (λ (x : ℕ). IsReady p new (take k (without t order)) x) (sym f.3) (subst (λ (xs : List ℕ). IsReady p new xs (get_or order f.0 0)) (sym f.2)
      (λ u m w. let off = not_it u w in has_without t u (take f.0 order) (order_follows.ready f.0 f.1 u m (sym (same u off) ∙ w)) off));
}
  where
    not_it : (u : ℕ) → waits (new u) ≡ true → eqb t u ≡ false
    not_it u w = false_of (eqb t u) (λ at. let now : waits (new t) ≡ true = ap (λ (n : ℕ). waits (new n)) (eqb-true t u at) ∙ w in absurd cc)

-- what the ended parents of a Clean make isn't made by a front of rest
unmade : (p : Plan) (s : State) (t : ℕ) → HasStorageLaws p → IsSoundState p s → HaveParentsEnded p s t → (front : List ℕ) → ((u : ℕ) → has front u ≡ true → has s.rest u ≡ true)
    → (g : ℕ) → cleans p t g ≡ true → made p front g ≡ false
unmade p s t proper sound parents_ended front inside g c = false_of (made p front g) (λ m.
    let u = maker_of p front g m in
    not_both (s.phase u.0) (sound.safe.waiting u.0 (inside u.0 u.1)) (parents_ended u.0 (proper.cleans_after t u.0 g c u.2)))

-- a Clean whose parents have ended can start
pub clean_can_start : (p : Plan) (s : State) (t : ℕ) → HasStorageLaws p → IsSoundState p s → has s.rest t ≡ true → is_clean p t ≡ true → HaveParentsEnded p s t → CanStart p s t
clean_can_start p s t proper sound there kind parents_ended = record {
  parents_ended = parents_ended;
  leaves_safe = λ w. subst (λ (b : Bool). Safe p (after p s (cond b (Clean w t) (Grant w t)))) (sym kind)
      (fit_of p (put s.phase t Ended) (cleaned_held p t s.held) (without t s.rest)
      (follows_without p s.phase (put s.phase t Ended) t s.rest (λ u off. ap waits (put_off s.phase t Ended u off)) (ap waits (put_at s.phase t Ended)) (follows_of p s.phase s.held s.rest sound.safe))
      (λ k l q m.
      let f = front_of_without t s.rest k l in
      let front = take f.0 s.rest in
      let less = usage_by_weight p (sizes (cleaned_held p t s.held)) (sizes s.held) (without t front) (t ∷ without t front) q
      (λ g. clean_weight (cleans p t g) (cleaned p (without t front) g) (has (makes p t) g) (made p (without t front) g) (good_size p g) (s.held g) (proper.cleans_make t g kind)
      (unmade p s t proper sound parents_ended (without t front) (λ u n. has_take s.rest f.0 u (without_has t u front n).0) g)) in
      let same = usage_without p (sizes s.held) t front q in
      let more = usage_by_weight p (sizes s.held) (sizes s.held) (t ∷ front) front q
      (λ g. lighter (cleans p t g) (cleaned p front g) (has (makes p t) g) (made p front g) (good_size p g) (sizes s.held g) (proper.cleans_make t g kind)) in
      let had = sound.safe.within f.0 f.1 q m in
      subst (λ (xs : List ℕ). usage p (sizes (cleaned_held p t s.held)) xs q ≤ place_bound p q) (sym f.2) (omega (arith, less, same, more, had))));
}
  where
    lighter : (ct c mt mf : Bool) (d x : ℕ) → mt ≡ false → cond (ct || c) 0 (cond (mt || mf) d x) ≤ cond c 0 (cond mf d x)
    lighter ct c true mf d x e = absurd cc
    lighter true c false mf d x e = omega arith
    lighter false c false mf d x e = omega arith

-- none of the first k tasks of rest can start
abbrev pub NoneStarts : Plan → State → ℕ → Type 0
NoneStarts p s k = (u : ℕ) → has (take k s.rest) u ≡ true → CanStart p s u → ⊥

split : (xs : List ℕ) (i : ℕ) → i < length xs → xs ≡ take i xs ++ get_or xs i 0 ∷ drop (suc i) xs
split [] i h = absurd (omega arith)
split (x ∷ xs) zero h = refl
split (x ∷ xs) (suc i) h = ap (λ (l : List ℕ). x ∷ l) (split xs i (omega arith))

pub choice_at : (p : Plan) (s : State) (k : ℕ) → s.failing ≡ false → k < length s.rest → CanStart p s (get_or s.rest k 0) → NoneStarts p s k → IsChoice p s (get_or s.rest k 0)
choice_at p s k unfailed below can none = record {
  no_fail = unfailed;
  before = take k s.rest;
  later = drop (suc k) s.rest;
  is = split s.rest k below;
  can = can;
  first = none;
}

has_both : (xs ys : List ℕ) (u : ℕ) → has (xs ++ ys) u ≡ (has xs u || has ys u)
has_both xs ys u = list_any-append (λ y. eqb y u) xs ys

-- one task more
pub none_more : (p : Plan) (s : State) (k : ℕ) → k < length s.rest → NoneStarts p s k → (CanStart p s (get_or s.rest k 0) → ⊥) → NoneStarts p s (k + 1)
none_more p s k below none here u h can =
    let x = get_or s.rest k 0 in
    or_case (has (take k s.rest) u) (has (x ∷ []) u) (sym (has_both (take k s.rest) (x ∷ []) u) ∙ ap (λ (l : List ℕ). has l u) (sym (take_more s.rest k 0 below)) ∙ h)
    (λ early. none u early can)
    (λ last. or_case (eqb x u) false last (λ at. here (subst (λ (y : ℕ). CanStart p s y) (sym (eqb-true x u at)) can)) (λ no. absurd cc))

pub none_at_first : (p : Plan) (s : State) → NoneStarts p s 0
none_at_first p s u h can = none_of s.rest h
  where
    none_of : (xs : List ℕ) → has (take 0 xs) u ≡ true → ⊥
    none_of [] m = absurd cc
    none_of (x ∷ xs) m = absurd cc

take_all : (xs : List ℕ) → take (length xs) xs ≡ xs
take_all [] = refl
take_all (x ∷ xs) = ap (λ (l : List ℕ). x ∷ l) (take_all xs)

-- no Choice
pub no_choice : (p : Plan) (s : State) (k : ℕ) → k ≡ length s.rest → NoneStarts p s k → (t : ℕ) → IsChoice p s t → ⊥
no_choice p s k end none t choice =
    none t (ap (λ (n : ℕ). has (take n s.rest) t) end ∙ ap (λ (l : List ℕ). has l t) (take_all s.rest) ∙ ap (λ (l : List ℕ). has l t) choice.is ∙ has_split choice.before choice.later t) choice.can

-- where there is no Choice and no Fail, nothing of rest can start
pub none_starts : (p : Plan) (s : State) → s.failing ≡ false → HasNoChoice p s → (k : ℕ) → k ≤ length s.rest → NoneStarts p s k
none_starts p s unfailed none zero l = none_at_first p s
none_starts p s unfailed none (suc k) l = subst (NoneStarts p s) (let e : k + 1 ≡ suc k = omega arith in e)
    (let below = none_starts p s unfailed none k (omega arith) in none_more p s k (omega arith) below (λ can. none (get_or s.rest k 0) (choice_at p s k unfailed (omega arith) can below)))

-- so no Clean of rest has all its parents ended then: a fresh order never begins with a Clean
pub no_ready_clean : (p : Plan) (s : State) (t : ℕ) → HasStorageLaws p → IsSoundState p s → s.failing ≡ false → HasNoChoice p s → has s.rest t ≡ true → is_clean p t ≡ true → HaveParentsEnded p s t → ⊥
no_ready_clean p s t proper sound unfailed none there kind parents_ended =
    none_starts p s unfailed none (length s.rest) (omega arith) t (ap (λ (l : List ℕ). has l t) (take_all s.rest) ∙ there) (clean_can_start p s t proper sound there kind parents_ended)

-- The first task of rest can start as soon as its parents have ended, whatever runs.
pub first_can_start : (p : Plan) (s : State) (t : ℕ) (ts : List ℕ) → HasStorageLaws p → IsSoundState p s → s.rest ≡ t ∷ ts → HaveParentsEnded p s t → CanStart p s t
first_can_start p s t ts laws sound is parents_ended = by (is_clean p t) refl
  where
    fit : Fits p s.phase s.held (t ∷ ts)
    fit = subst (λ (xs : List ℕ). Fits p s.phase s.held xs) is sound.safe

    tail : without t s.rest ≡ ts
    tail = ap (without t) is ∙ without_head t ts fit.once

    by : (b : Bool) → is_clean p t ≡ b → CanStart p s t
    by true e = clean_can_start p s t laws sound (ap (λ (xs : List ℕ). has xs t) is ∙ has_head t ts) e parents_ended
    by false e = record {
      parents_ended = parents_ended;
      leaves_safe = λ w. subst (λ (b : Bool). Safe p (after p s (cond b (Clean w t) (Grant w t)))) (sym e) (subst (λ (xs : List ℕ). Fits p (put s.phase t Runs) (reserved_for p t s.held) xs) (sym tail)
          (fit_tail p s.phase (put s.phase t Runs) s.held (reserved_for p t s.held) t ts (λ u off. ap waits (put_off s.phase t Runs u off)) (ap waits (put_at s.phase t Runs))
          (λ k g. grant_weight (cleans p t g) (cleaned p (take k ts) g) (has (makes p t) g) (made p (take k ts) g) (good_size p g) (s.held g) (laws.cleans_only t g e)) fit));
    }

pub first_is_choice : (p : Plan) (s : State) (t : ℕ) (ts : List ℕ) → HasStorageLaws p → IsSoundState p s → s.failing ≡ false → s.rest ≡ t ∷ ts → HaveParentsEnded p s t → IsChoice p s t
first_is_choice p s t ts laws sound unfailed is parents_ended = record {
  no_fail = unfailed;
  before = [];
  later = ts;
  is = is;
  can = first_can_start p s t ts laws sound is parents_ended;
  first = λ u h. absurd cc;
}
