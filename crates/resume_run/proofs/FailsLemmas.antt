-- A Legal record is Legal without its Fails.
use Rattle.std.proofs.Common.{◌≡◌, ℕ, Bool, true, false, List, [], ◌∷◌, refl, sym, ap, ◌∙◌}
use Rattle.plan_core.specs.declared.plan.Plan.{Plan}
use Rattle.storage_simulation.specs.declared.standing.Phase.{Phase}
use Rattle.storage_simulation.specs.declared.standing.Phase.TheVariants.{Ended}
use Rattle.run_record.specs.Events.{Event, Grant, Arrive, End, Clean, Fail, Again, Regrant}
use Rattle.lease_rules.specs.Legal.{IsOpen, Legal, LegalFrom}
use Rattle.lease_rules.specs.State.{State, after, held_after, opened, put}
use Rattle.resume_run.specs.Replaying.{without_fails}

off_on : (b : Bool) → b ≡ false → b ≡ true → ⊥
off_on b off on = (let e : false ≡ true = sym off ∙ on in absurd cc)

-- ---- after the first Fail

-- the same state but for what failed: here some task has, there none
record Follows (p : Plan) (s n : State) : Type 0 where
  failing : s.failing ≡ true
  phase : n.phase ≡ s.phase
  holder : n.holder ≡ s.holder
  held : n.held ≡ s.held
  none_failed : (t : ℕ) → n.failed t ≡ false

still_open : (p : Plan) (s n : State) (w t : ℕ) → Follows p s n → IsOpen s w t → IsOpen n w t
still_open p s n w t f o = record { runs = ap (λ (g : ℕ → Phase). g t) f.phase ∙ o.runs; holds = ap (λ (g : ℕ → ℕ). g t) f.holder ∙ o.holds; no_fail = f.none_failed t }

arrive_follows : (p : Plan) (s n : State) (w t k : ℕ) → Follows p s n → Follows p (after p s (Arrive w t k)) (after p n (Arrive w t k))
arrive_follows p s n w t k f = record {
  failing = f.failing;
  phase = ap (λ (g : ℕ → Phase). put g t Ended) f.phase;
  holder = f.holder;
  held = ap (held_after p (Arrive w t k)) f.held;
  none_failed = f.none_failed;
}

end_follows : (p : Plan) (s n : State) (w t : ℕ) (ks : List ℕ) → Follows p s n → Follows p (after p s (End w t ks)) (after p n (End w t ks))
end_follows p s n w t ks f = record {
  failing = f.failing;
  phase = ap (λ (g : ℕ → Phase). put g t Ended) f.phase;
  holder = f.holder;
  held = ap (held_after p (End w t ks)) f.held;
  none_failed = f.none_failed;
}

-- after a Fail there are Arrives, Ends and Fails alone
legal_after : (p : Plan) (s n : State) (r : List Event) → Follows p s n → LegalFrom p s r → LegalFrom p n (without_fails r)
legal_after p s n [] f legal = tt
legal_after p s n (Grant w t ∷ r) f legal = absurd (off_on s.failing legal.0.2.no_fail f.failing)
legal_after p s n (Regrant w t ∷ r) f legal = absurd (off_on s.failing legal.0.1.no_fail f.failing)
legal_after p s n (Clean w t ∷ r) f legal = absurd (off_on s.failing legal.0.2.no_fail f.failing)
legal_after p s n (Again w t c ks ∷ r) f legal = absurd (off_on s.failing legal.0.4 f.failing)
legal_after p s n (Arrive w t k ∷ r) f legal =
    let a = legal.0 in
    ((a.0, a.1, still_open p s n w t f a.2, a.3), legal_after p (after p s (Arrive w t k)) (after p n (Arrive w t k)) r (arrive_follows p s n w t k f) legal.1)
legal_after p s n (End w t ks ∷ r) f legal =
    let a = legal.0 in
    ((a.0, a.1, still_open p s n w t f a.2, a.3), legal_after p (after p s (End w t ks)) (after p n (End w t ks)) r (end_follows p s n w t ks f) legal.1)
legal_after p s n (Fail w t c ks ∷ r) f legal =
    legal_after p (after p s (Fail w t c ks)) n r (record { failing = refl; phase = f.phase; holder = f.holder; held = f.held; none_failed = f.none_failed }) legal.1

-- ---- before it

legal_before : (p : Plan) (s : State) (r : List Event) → ((t : ℕ) → s.failed t ≡ false) → LegalFrom p s r → LegalFrom p s (without_fails r)
legal_before p s [] none legal = tt
legal_before p s (Grant w t ∷ r) none legal = (legal.0, legal_before p (after p s (Grant w t)) r none legal.1)
legal_before p s (Regrant w t ∷ r) none legal = (legal.0, legal_before p (after p s (Regrant w t)) r none legal.1)
legal_before p s (Clean w t ∷ r) none legal = (legal.0, legal_before p (after p s (Clean w t)) r none legal.1)
legal_before p s (Again w t c ks ∷ r) none legal = (legal.0, legal_before p (after p s (Again w t c ks)) r none legal.1)
legal_before p s (Arrive w t k ∷ r) none legal = (legal.0, legal_before p (after p s (Arrive w t k)) r none legal.1)
legal_before p s (End w t ks ∷ r) none legal = (legal.0, legal_before p (after p s (End w t ks)) r none legal.1)
legal_before p s (Fail w t c ks ∷ r) none legal = legal_after p (after p s (Fail w t c ks)) s r (record { failing = refl; phase = refl; holder = refl; held = refl; none_failed = none }) legal.1

pub legal_without : (p : Plan) (order : List ℕ) (r : List Event) → Legal p order r → Legal p order (without_fails r)
legal_without p order r legal = legal_before p (opened order) r (λ t. refl) legal
