-- A state in which the start of a task is tried.
use Rattle.std.proofs.Common.{◌≡◌, ℕ, zero, suc, ◌≤◌, ◌||◌, Bool, true, false, cond, List, [], ◌∷◌, refl, sym, ap, subst, ◌∙◌, arith}
use Rattle.std.specs.Prelude.{Decides}
use Rattle.std.specs.List.{list_all, list_any}
use Rattle.std.proofs.Math.Path.{fun_ext}
use Rattle.place_peaks.proofs.Offered.{all_have, good_small, have_all}
use Rattle.lease_rules.specs.Choice.{HaveParentsEnded, IsCandidate, start_event}
use Rattle.lease_rules.specs.code.Law.{IsSoundState}
use Rattle.lease_rules.specs.State.{State, ended, held_after, phase_after, put, reserved_for, started}
use Rattle.lease_rules.specs.code.State.{runs}
use Rattle.lease_book.specs.Trial.{HasPlace, IsTrial}
use Rattle.lease_book.specs.declared.trial.Trial.{Trial}
use Rattle.plan_core.specs.Numbers.{has}
use Rattle.plan_core.specs.Words.{cleans, is_clean, parents}
use Rattle.plan_core.specs.declared.plan.Plan.{Plan}
use Rattle.run_record.specs.Events.{Clean, Grant}
use Rattle.storage_simulation.specs.code.Goods.{IsWithinLimits}
use Rattle.storage_simulation.specs.Goods.{good_size, makes}
use Rattle.storage_simulation.specs.code.Ordering.{progress}
use Rattle.storage_simulation.specs.code.Standings.{IsStanding, at_in, held_of, phase_of}
use Rattle.storage_simulation.specs.Standings.{held_size, sizes}
use Rattle.storage_simulation.specs.Usage.{IsWithin}
use Rattle.storage_simulation.specs.declared.standing.Held.{Held}
use Rattle.storage_simulation.specs.declared.standing.Held.TheVariants.{Nothing, Reserved}
use Rattle.storage_simulation.specs.declared.standing.Phase.{Phase}
use Rattle.storage_simulation.specs.declared.standing.Phase.TheVariants.{Ended, Runs, Waits}

-- what a start changes, by the task's kind
start_phase : (p : Plan) (f : ℕ → Phase) (t u : ℕ) → phase_after (start_event p 0 t) f u ≡ put f t (cond (is_clean p t) Ended Runs) u
start_phase p f t u = by_kind (is_clean p t)
  where
    by_kind : (b : Bool) → phase_after (cond b (Clean 0 t) (Grant 0 t)) f u ≡ put f t (cond b Ended Runs) u
    by_kind true = refl
    by_kind false = refl

start_small : (p : Plan) (f : ℕ → Held) (t g : ℕ) → held_size (f g) ≤ good_size p g → held_size (held_after p (start_event p 0 t) f g) ≤ good_size p g
start_small p f t g small = by_kind (is_clean p t)
  where
    by_kind : (b : Bool) → held_size (held_after p (cond b (Clean 0 t) (Grant 0 t)) f g) ≤ good_size p g
    by_kind true = by_test (cleans p t g)
      where
        by_test : (b : Bool) → held_size (cond b Nothing (f g)) ≤ good_size p g
        by_test true = omega arith
        by_test false = small
    by_kind false = by_test (has (makes p t) g)
      where
        by_test : (b : Bool) → held_size (cond b (Reserved (good_size p g)) (f g)) ≤ good_size p g
        by_test true = omega arith
        by_test false = small

-- the trial is a standing
pub trial_standing : (p : Plan) (s : State) (t : ℕ) (x : Trial) → IsWithinLimits p → IsSoundState p s → HasPlace p x → IsTrial p s t x → IsStanding p x.standing
trial_standing p s t x limits sound place tried = record {
  pairs = place.standing.pairs;
  tasks = place.standing.tasks;
  deliveries = place.standing.deliveries;
  small = λ g.
      let is = ap held_size (tried.held g) in
      let few = start_small p s.held t g (sound.small g) in
      let size = good_small p g limits in
      omega (arith, is, few, size);
}

pub all_parents : (p : Plan) (s : State) (t : ℕ) → true ≡ list_all (λ u. ended (s.phase u)) (parents p t) → HaveParentsEnded p s t
all_parents p s t e = all_have (λ u. ended (s.phase u)) (parents p t) (sym e)

pub not_all_parents : (p : Plan) (s : State) (t : ℕ) → false ≡ list_all (λ u. ended (s.phase u)) (parents p t) → HaveParentsEnded p s t → ⊥
not_all_parents p s t e can = let all = have_all (λ u. ended (s.phase u)) (parents p t) can in absurd cc

-- the test of a candidate
kept : (p : Plan) (s : State) (t : ℕ) → is_clean p t ≡ false → (g : ℕ) → held_after p (start_event p 0 t) s.held g ≡ reserved_for p t s.held g
kept p s t unclean g = ap (λ (b : Bool). held_after p (cond b (Clean 0 t) (Grant 0 t)) s.held g) unclean

candidate_held : (p : Plan) (s : State) (t : ℕ) (x : Trial) → is_clean p t ≡ false → IsTrial p s t x → held_of x.standing ≡ reserved_for p t s.held
candidate_held p s t x unclean tried = fun_ext (λ g. tried.held g ∙ kept p s t unclean g)

pub candidate_test : (p : Plan) (s : State) (t : ℕ) (x : Trial) (b : Bool) → is_clean p t ≡ false → HaveParentsEnded p s t → IsTrial p s t x → Decides b (IsWithin p (sizes (held_of x.standing)) []) → Decides b (IsCandidate p s t)
candidate_test p s t x b unclean parents_ended tried d = (
  λ h. record { no_clean = unclean; parents_ended = parents_ended; within = subst (λ (f : ℕ → Held). IsWithin p (sizes f) []) (candidate_held p s t x unclean tried) (d.0 h) },
  λ can. d.1 (subst (λ (f : ℕ → Held). IsWithin p (sizes f) []) (sym (candidate_held p s t x unclean tried)) can.within),
)

-- its standing is the one from which a fresh order is made
candidate_phase : (p : Plan) (s : State) (t : ℕ) (x : Trial) → is_clean p t ≡ false → IsTrial p s t x → phase_of x.standing ≡ put s.phase t Runs
candidate_phase p s t x unclean tried = fun_ext (λ u. tried.phase u ∙ start_phase p s.phase t u ∙ ap (λ (b : Bool). put s.phase t (cond b Ended Runs) u) unclean)

pub candidate_standing : (p : Plan) (s : State) (t : ℕ) (x : Trial) → is_clean p t ≡ false → IsTrial p s t x → progress x.standing ≡ started p s t
candidate_standing p s t x unclean tried = λ i. record { phase = candidate_phase p s t x unclean tried i; held = candidate_held p s t x unclean tried i }

pub none_runs : (xs : List Phase) → list_any runs xs ≡ false → (u : ℕ) → at_in Waits xs u ≡ Runs → ⊥
none_runs [] h u e = absurd cc
none_runs (x ∷ xs) h zero e = absurd (let k : (true || list_any runs xs) ≡ false = ap (λ (y : Phase). runs y || list_any runs xs) (sym e) ∙ h in cc)
none_runs (x ∷ xs) h (suc u) e = none_runs xs (later (runs x) (list_any runs xs) h) u e
  where
    later : (a b : Bool) → (a || b) ≡ false → b ≡ false
    later true b k = absurd cc
    later false b k = k
