-- The state that arrays and trees show after one entry more.
use Rattle.std.proofs.Common.{◌≡◌, ℕ, false, List, [], ◌∷◌, ◌++◌, refl, sym, ap, subst, ◌∙◌, arith}
use Rattle.std.specs.Prelude.{filter, replicate}
use Rattle.place_peaks.proofs.Offered.{first_is_choice, good_small, has_head, sound_more}
use Rattle.lease_rules.specs.Choice.{HasNoChoice}
use Rattle.place_peaks.specs.Peaks.{left_of, line_of, stack_of}
use Rattle.plan_core.specs.Numbers.{has}
use Rattle.storage_simulation.specs.declared.standing.Held.TheVariants.{Nothing}
use Rattle.lease_rules.specs.Legal.{Allowed}
use Rattle.lease_rules.specs.State.{State, after, opened, put, reserved_for}
use Rattle.plan_core.specs.declared.plan.Plan.{Plan}
use Rattle.run_record.specs.Events.{Regrant}
use Rattle.storage_simulation.specs.declared.standing.Phase.TheVariants.{Runs, Waits}
use Rattle.storage_simulation.specs.declared.standing.Standing.{Standing}
use Rattle.storage_simulation.specs.code.Goods.{IsWithinLimits}
use Rattle.storage_simulation.specs.code.Standings.{held_of, phase_of}
use Rattle.storage_simulation.specs.Standings.{held_size}
use Rattle.place_peaks.specs.declared.peaks.Peaks.{Peaks}
use Rattle.place_peaks.specs.Renewing.{IsShown}
use Rattle.place_peaks.specs.Entries.{AreTied}
use Rattle.place_peaks.specs.Links.{AreLinks}
use Rattle.lease_book.specs.declared.state.RunState.{RunState}
use Rattle.lease_book.specs.RunState.{HasLengths, HasPeaks, IsSame, LineIsRest, state_of}
use Rattle.lease_book.proofs.ArrayLemmas.{at_same, same_state}

pub state_after : (p : Plan) (s : State) (new : RunState) → AreTied p s new.peaks → ((t : ℕ) → (state_of new).phase t ≡ s.phase t) → ((t : ℕ) → (state_of new).holder t ≡ s.holder t) → ((t : ℕ) → (state_of new).agains t ≡ s.agains t)
    → ((t : ℕ) → (state_of new).failed t ≡ s.failed t) → ((g : ℕ) → (state_of new).held g ≡ s.held g) → new.failing ≡ s.failing → state_of new ≡ s
state_after p s new tied phase holder agains failed held failing = same_state (state_of new) s (record { phase = phase; holder = holder; agains = agains; failed = failed; held = held; failing = failing; rest = sym tied.behind.rest })

pub peaks_after : (p : Plan) (s : State) (new : RunState) → state_of new ≡ s → AreTied p s new.peaks → AreLinks p new.links → HasPeaks p new
peaks_after p s new is tied links = record { tied = subst (λ (x : State). AreTied p x new.peaks) (sym is) tied; links = links }

-- the standing in which the first task of a fresh order runs
pub shown_after : (p : Plan) (s : State) (b : Peaks) (w t : ℕ) (st : Standing) → IsWithinLimits p → AreTied p s b → Allowed p s (Regrant w t) → HasLengths p st → ((u : ℕ) → phase_of st u ≡ put s.phase t Runs u) → ((g : ℕ) → held_of st g ≡ reserved_for p t s.held g) → IsShown p st (after p s (Regrant w t))
shown_after p s b w t st limits tied allowed long phase held = record {
  standing = record {
    pairs = long.pairs;
    tasks = long.tasks;
    deliveries = long.deliveries;
    small = λ g.
        let is = ap held_size (held g) in
        let few = (sound_more p s (Regrant w t) tied.behind.rules.laws tied.behind.sound allowed).small g in
        let size = good_small p g limits in
        omega (arith, is, few, size);
  };
  phase = phase;
  held = held;
}

-- the state before the first entry
pub opened_state : (p : Plan) (order : List ℕ) (s : RunState) (n : ℕ) → AreTied p (opened order) s.peaks → ((t : ℕ) → phase_of s.standing t ≡ Waits) → ((g : ℕ) → held_of s.standing g ≡ Nothing)
    → s.holders.items ≡ replicate n 0 → s.agains.items ≡ replicate n 0 → s.failed.items ≡ replicate n false → s.failing ≡ false → IsSame (state_of s) (opened order)
opened_state p order s n tied phase held holders agains failed failing = record {
  phase = phase;
  holder = λ t. at_same 0 n t s.holders.items holders;
  agains = λ t. at_same 0 n t s.agains.items agains;
  failed = λ t. at_same false n t s.failed.items failed;
  held = held;
  failing = failing;
  rest = sym tied.behind.rest;
}

pub opened_peaks : (p : Plan) (order : List ℕ) (s : RunState) → IsSame (state_of s) (opened order) → AreTied p (opened order) s.peaks → AreLinks p s.links → HasPeaks p s
opened_peaks p order s same tied links = peaks_after p (opened order) s (same_state (state_of s) (opened order) same) tied links

-- Where there is no Choice, no task waits again: the first such task would be it.
pub line_is_rest : (p : Plan) (s : RunState) → HasPeaks p s → s.failing ≡ false → HasNoChoice p (state_of s) → LineIsRest s
line_is_rest p s peaks unfailed none = by_stack (stack_of s.peaks) refl
  where
    by_stack : (xs : List ℕ) → stack_of s.peaks ≡ xs → stack_of s.peaks ≡ []
    by_stack [] e = e
    by_stack (t ∷ ts) e = absurd (none t (first_is_choice p (state_of s) t (ts ++ filter (left_of s.peaks) (line_of s.peaks)) peaks.tied.behind.rules.laws peaks.tied.behind.sound unfailed
        (ap (λ (xs : List ℕ). xs ++ filter (left_of s.peaks) (line_of s.peaks)) e) (peaks.tied.behind.waiting t (ap (λ (xs : List ℕ). has xs t) e ∙ has_head t ts))))
