-- What holds in each sound state: a Choice where nothing runs, and room for what is held.
use Rattle.std.proofs.Common.{◌≡◌, ℕ, ◌+◌, ◌<◌, Bool, true, false, cond, eqb, List, [], ◌∷◌, take, refl, sym, ap, subst, ◌∙◌, arith}
use Rattle.lease_rules.proofs.FitLemmas.{fit_tail}
use Rattle.lease_rules.proofs.ListLemmas.{has_head, has_take, or_case, or_right, without_head}
use Rattle.lease_rules.proofs.TotalLemmas.{total_add}
use Rattle.lease_rules.specs.Choice.{IsChoice, Safe, start_event}
use Rattle.lease_rules.specs.code.Law.{FitsFromStart, HasStorageLaws, IsSafeState, IsSoundState}
use Rattle.lease_rules.specs.Law.{reserved_at, stored_at}
use Rattle.lease_rules.specs.Legal.{IsComplete, Legal}
use Rattle.lease_rules.specs.State.{State, after, ended, now, opened, put, reserved_for, reserved_size, stored_size, without}
use Rattle.plan_core.specs.Numbers.{has}
use Rattle.plan_core.specs.Words.{cleans, count_tasks, is_clean, parents}
use Rattle.plan_core.specs.declared.plan.Plan.{Plan}
use Rattle.run_record.specs.Events.{Clean, Event, Grant}
use Rattle.storage_simulation.specs.Fitting.{Fits}
use Rattle.storage_simulation.specs.Goods.{good_size, goods, lies_at, makes}
use Rattle.storage_simulation.specs.Standings.{held_size, sizes, waits}
use Rattle.storage_simulation.specs.Usage.{cleaned, made, usage}
use Rattle.storage_simulation.specs.declared.standing.Held.{Held}
use Rattle.storage_simulation.specs.declared.standing.Held.TheVariants.{Nothing, Reserved, Stored}
use Rattle.storage_simulation.specs.declared.standing.Phase.{Phase}
use Rattle.storage_simulation.specs.declared.standing.Phase.TheVariants.{Ended, Runs, Waits}
use Rattle.lease_rules.proofs.SoundLemmas.{put_at, put_off, not_both, cleaned_held, grant_weight, clean_weight, false_of, sound_opened, sound_after}

pub maker_of : (p : Plan) (ts : List ℕ) (g : ℕ) → made p ts g ≡ true → (u : ℕ) × (has ts u ≡ true) × (has (makes p u) g ≡ true)
maker_of p [] g h = absurd cc
maker_of p (t ∷ ts) g h = or_case (has (makes p t) g) (made p ts g) h
    (λ is. (t, has_head t ts, is))
    (λ is. let rest = maker_of p ts g is in (rest.0, or_right (eqb t rest.0) (has ts rest.0) rest.1, rest.2))

-- where nothing runs and no Fail stands, the first task of rest is the Choice
pub choice_exists : (p : Plan) (s : State) (t : ℕ) (ts : List ℕ) → HasStorageLaws p → IsSoundState p s → s.failing ≡ false → ((u : ℕ) → s.phase u ≡ Runs → ⊥) → s.rest ≡ t ∷ ts → IsChoice p s t
choice_exists p s t ts proper sound unfailed idle is = record {
  no_fail = unfailed;
  before = [];
  later = ts;
  is = is;
  can = record { parents_ended = parents_ended; leaves_safe = λ w. leaves w (is_clean p t) refl };
  first = λ u h. absurd cc;
}
  where
    fit : Fits p s.phase s.held (t ∷ ts)
    fit = subst (λ (xs : List ℕ). Fits p s.phase s.held xs) is sound.safe

    idle_ended : (u : ℕ) (x : Phase) → s.phase u ≡ x → (waits (s.phase u) ≡ true → ⊥) → ended (s.phase u) ≡ true
    idle_ended u Waits e f = absurd (f (ap waits e))
    idle_ended u Runs e f = absurd (idle u e)
    idle_ended u Ended e f = ap ended e

    parents_ended : (u : ℕ) → has (parents p t) u ≡ true → ended (s.phase u) ≡ true
    parents_ended u m = idle_ended u (s.phase u) refl (λ w. let e = fit.ready 0 (omega arith) u m w in absurd cc)

    tail : without t s.rest ≡ ts
    tail = ap (without t) is ∙ without_head t ts fit.once

    unmade : (k g : ℕ) → cleans p t g ≡ true → made p (take k ts) g ≡ false
    unmade k g c = false_of (made p (take k ts) g) (λ m.
        let u = maker_of p (take k ts) g m in
        let w = fit.waiting u.0 (or_right (eqb t u.0) (has ts u.0) (has_take ts k u.0 u.1)) in
        not_both (s.phase u.0) w (parents_ended u.0 (proper.cleans_after t u.0 g c u.2)))

    leaves : (w : ℕ) (b : Bool) → is_clean p t ≡ b → Safe p (after p s (start_event p w t))
    leaves w true e = subst (λ (b : Bool). Safe p (after p s (cond b (Clean w t) (Grant w t)))) (sym e) (subst (λ (xs : List ℕ). Fits p (put s.phase t Ended) (cleaned_held p t s.held) xs) (sym tail)
        (fit_tail p s.phase (put s.phase t Ended) s.held (cleaned_held p t s.held) t ts (λ u off. ap waits (put_off s.phase t Ended u off)) (ap waits (put_at s.phase t Ended))
        (λ k g. clean_weight (cleans p t g) (cleaned p (take k ts) g) (has (makes p t) g) (made p (take k ts) g) (good_size p g) (s.held g) (proper.cleans_make t g e) (unmade k g)) fit))
    leaves w false e = subst (λ (b : Bool). Safe p (after p s (cond b (Clean w t) (Grant w t)))) (sym e) (subst (λ (xs : List ℕ). Fits p (put s.phase t Runs) (reserved_for p t s.held) xs) (sym tail)
        (fit_tail p s.phase (put s.phase t Runs) s.held (reserved_for p t s.held) t ts (λ u off. ap waits (put_off s.phase t Runs u off)) (ap waits (put_at s.phase t Runs))
        (λ k g. grant_weight (cleans p t g) (cleaned p (take k ts) g) (has (makes p t) g) (made p (take k ts) g) (good_size p g) (s.held g) (proper.cleans_only t g e)) fit))

-- where nothing runs, no Fail stands and nothing is left, all tasks have ended
pub complete_of : (p : Plan) (s : State) → IsSoundState p s → s.failing ≡ false → ((u : ℕ) → s.phase u ≡ Runs → ⊥) → s.rest ≡ [] → IsComplete p s
complete_of p s sound unfailed idle none = record { no_fail = unfailed; all_ended = λ t l. by_phase t l (s.phase t) refl }
  where
    by_phase : (t : ℕ) → t < count_tasks p → (x : Phase) → s.phase t ≡ x → ended (s.phase t) ≡ true
    by_phase t l Waits e = absurd (let h = ap (λ (xs : List ℕ). has xs t) (sym none) ∙ sound.all_left t l e in cc)
    by_phase t l Runs e = absurd (idle t e)
    by_phase t l Ended e = ap ended e

-- what is stored and what is reserved come to what is held
pub sums_are_usage : (p : Plan) (held : ℕ → Held) (q : ℕ) → stored_at p held q + reserved_at p held q ≡ usage p (sizes held) [] q
sums_are_usage p held q = total_add _ _ _ (goods p) (λ g. by_place (lies_at p g q) (held g))
  where
    by_place : (b : Bool) (h : Held) → cond b (stored_size h) 0 + cond b (reserved_size h) 0 ≡ cond b (held_size h) 0
    by_place true Nothing = refl
    by_place true (Stored n) = omega arith
    by_place true (Reserved n) = omega arith
    by_place false h = refl

-- what holds of each sound state
pub safe_state : (p : Plan) (s : State) → HasStorageLaws p → IsSoundState p s → IsSafeState p s
safe_state p s proper sound = record {
  within = λ q l. let had = sound.safe.within 0 (omega arith) q l in let same = sums_are_usage p s.held q in omega (arith, had, same);
  safe = sound.safe;
  choice = λ t ts unfailed idle is. choice_exists p s t ts proper sound unfailed idle is;
  complete = complete_of p s sound;
}

-- after every entry
pub always_safe : (p : Plan) (order : List ℕ) (r : List Event) → HasStorageLaws p → FitsFromStart p order → Legal p order r → (k : ℕ) → IsSafeState p (now p order (take k r))
always_safe p order r proper fit legal k = safe_state p (now p order (take k r)) proper (sound_after p proper (opened order) r (sound_opened p order fit) legal k)
