-- The open tasks, one after the other.
use Rattle.std.proofs.Common.{◌≡◌, ℕ, suc, ◌+◌, ◌<◌, ◌&&◌, true, false, cond, eqb, not, List, [], ◌∷◌, ◌++◌, refl, sym, ap, subst, ◌∙◌, arith}
use Rattle.std.specs.Prelude.{Some, None}
use Rattle.plan_core.specs.declared.plan.Plan.{Plan}
use Rattle.plan_core.proofs.TestLemmas.{by_bool}
use Rattle.storage_simulation.specs.declared.standing.Phase.{Phase}
use Rattle.storage_simulation.specs.declared.standing.Phase.TheVariants.{Ended, Runs, Waits}
use Rattle.run_record.specs.Events.{Event, Grant, Arrive, End, Clean, Fail, Again, Regrant}
use Rattle.lease_rules.specs.Legal.{IsOpen, LegalFrom}
use Rattle.lease_rules.specs.State.{State, after, now_from, put}
use Rattle.lease_rules.specs.code.State.{runs}
use Rattle.resume_run.specs.declared.lost.Lost.{Lost}
use Rattle.resume_run.specs.Lost.{HaveFewWorkers, lost_below, lost_of, owner}

-- ---- the worker of an open task

runs_is : (x : Phase) → runs x ≡ true → x ≡ Runs
runs_is Waits h = absurd cc
runs_is Runs h = refl
runs_is Ended h = absurd cc

pub opened_for : (s : State) (t : ℕ) → runs (s.phase t) ≡ true → s.failed t ≡ false → IsOpen s (s.holder t) t
opened_for s t on fine = record { runs = runs_is (s.phase t) on; holds = refl; no_fail = fine }

pub owner_found : (s : State) (w t : ℕ) → IsOpen s w t → Some w ≡ owner s t
owner_found s w t o =
    let test : (runs (s.phase t) && not (s.failed t)) ≡ true = ap (λ x. runs x && not (s.failed t)) o.runs ∙ ap not o.no_fail in
    ap Some (sym o.holds) ∙ sym (ap (λ b. cond b (Some (s.holder t)) None) test)

-- where it is open for none of the sixteen, it isn't open
pub owner_none : (s : State) (t : ℕ) → HaveFewWorkers s → ((w : ℕ) → w < 16 → IsOpen s w t → ⊥) → None ≡ owner s t
owner_none s t few none = by_bool (runs (s.phase t))
    (λ on. by_bool (s.failed t)
    (λ bad. sym (ap (λ b. cond (runs (s.phase t) && not b) (Some (s.holder t)) None) bad ∙ ap (λ b. cond (b && false) (Some (s.holder t)) None) on))
    (λ fine. absurd (none (s.holder t) (few t (runs_is (s.phase t) on)) (opened_for s t on fine))))
    (λ off. sym (ap (λ b. cond (b && not (s.failed t)) (Some (s.holder t)) None) off))

-- ---- one task more

pub lost_none : (s : State) (n : ℕ) (xs : List Lost) → xs ≡ lost_below s n → None ≡ owner s n → xs ≡ lost_below s (n + 1)
unfolding lost_below
lost_none s n xs is none = let one : n + 1 ≡ suc n = omega arith in is ∙ nothing (lost_below s n) ∙ ap (λ o. lost_below s n ++ lost_of n o) none ∙ ap (lost_below s) (sym one)
  where
    nothing : (ys : List Lost) → ys ≡ ys ++ []
    nothing [] = refl
    nothing (y ∷ ys) = ap (λ l. y ∷ l) (nothing ys)

pub lost_one : (s : State) (n w : ℕ) (xs : List Lost) → xs ≡ lost_below s n → Some w ≡ owner s n → xs ++ lost_of n (Some w) ≡ lost_below s (n + 1)
unfolding lost_below
lost_one s n w xs is found = let one : n + 1 ≡ suc n = omega arith in ap (λ l. l ++ lost_of n (Some w)) is ∙ ap (λ o. lost_below s n ++ lost_of n o) found ∙ ap (lost_below s) (sym one)

-- ---- workers are few

granted_few : (s next : State) (w t : ℕ) → w < 16 → next.holder ≡ put s.holder t w → next.phase ≡ put s.phase t Runs → HaveFewWorkers s → HaveFewWorkers next
granted_few s next w t low holder phase few u run = by_bool (eqb t u)
    (λ at. subst (λ x. x < 16) (sym (ap (λ (g : ℕ → ℕ). g u) holder ∙ ap (λ b. cond b w (s.holder u)) at)) low)
    (λ off. subst (λ x. x < 16) (sym (ap (λ (g : ℕ → ℕ). g u) holder ∙ ap (λ b. cond b w (s.holder u)) off))
    (few u (sym (ap (λ (g : ℕ → Phase). g u) phase ∙ ap (λ b. cond b Runs (s.phase u)) off) ∙ run)))

-- a task that gets another phase doesn't run, and the others stay as they were
stopped_few : (s next : State) (t : ℕ) (x : Phase) → (x ≡ Runs → ⊥) → next.holder ≡ s.holder → next.phase ≡ put s.phase t x → HaveFewWorkers s → HaveFewWorkers next
stopped_few s next t x other holder phase few u run = by_bool (eqb t u)
    (λ at. absurd (other (sym (ap (λ (g : ℕ → Phase). g u) phase ∙ ap (λ b. cond b x (s.phase u)) at) ∙ run)))
    (λ off. subst (λ y. y < 16) (sym (ap (λ (g : ℕ → ℕ). g u) holder))
    (few u (sym (ap (λ (g : ℕ → Phase). g u) phase ∙ ap (λ b. cond b x (s.phase u)) off) ∙ run)))

ended_other : Ended ≡ Runs → ⊥
ended_other e = absurd cc

waits_other : Waits ≡ Runs → ⊥
waits_other e = absurd cc

pub few_from : (p : Plan) (s : State) (r : List Event) → HaveFewWorkers s → LegalFrom p s r → HaveFewWorkers (now_from p s r)
few_from p s [] few legal = few
few_from p s (Grant w t ∷ r) few legal = few_from p (after p s (Grant w t)) r (granted_few s (after p s (Grant w t)) w t legal.0.0 refl refl few) legal.1
few_from p s (Regrant w t ∷ r) few legal = few_from p (after p s (Regrant w t)) r (granted_few s (after p s (Regrant w t)) w t legal.0.0 refl refl few) legal.1
few_from p s (Arrive w t n ∷ r) few legal = few_from p (after p s (Arrive w t n)) r (stopped_few s (after p s (Arrive w t n)) t Ended ended_other refl refl few) legal.1
few_from p s (End w t ns ∷ r) few legal = few_from p (after p s (End w t ns)) r (stopped_few s (after p s (End w t ns)) t Ended ended_other refl refl few) legal.1
few_from p s (Clean w t ∷ r) few legal = few_from p (after p s (Clean w t)) r (stopped_few s (after p s (Clean w t)) t Ended ended_other refl refl few) legal.1
few_from p s (Again w t c ns ∷ r) few legal = few_from p (after p s (Again w t c ns)) r (stopped_few s (after p s (Again w t c ns)) t Waits waits_other refl refl few) legal.1
few_from p s (Fail w t c ns ∷ r) few legal = few_from p (after p s (Fail w t c ns)) r few legal.1
