-- What a Legal record says of the tasks that may go on.
use Rattle.std.proofs.Common.{◌≡◌, ℕ, inl, inr, Bool, true, false, List, [], ◌∷◌, ◌++◌, refl, sym, ap, ◌∙◌, subst, append_assoc}
use Rattle.std.specs.List.{list_any}
use Rattle.std.proofs.lemmas.List.Folds.{list_any-append}
use Rattle.plan_core.specs.declared.plan.Plan.{Plan}
use Rattle.plan_core.specs.Numbers.{has}
use Rattle.plan_core.specs.Words.{parents, reads, writes}
use Rattle.plan_core.proofs.TestLemmas.{either, or_left, or_right}
use Rattle.run_record.specs.Events.{Event, Grant, Arrive, End, Clean, Fail, Again, Regrant}
use Rattle.lease_rules.specs.Choice.{IsChoice}
use Rattle.lease_rules.specs.code.Law.{IsSoundState}
use Rattle.lease_rules.specs.Legal.{Allowed, IsOpen, Legal, LegalFrom}
use Rattle.lease_rules.specs.code.Reading.{ends, frees, IsRead}
use Rattle.lease_rules.specs.State.{State, after, ended, now, now_from, opened}
use Rattle.site_yard.specs.code.Law.{HasPlanLaws, HasRecordLaws}
use Rattle.site_yard.specs.code.Places.{is_swept}

now_more : (p : Plan) (s : State) (r : List Event) (e : Event) → now_from p s (r ++ e ∷ []) ≡ after p (now_from p s r) e
now_more p s [] e = refl
now_more p s (f ∷ r) e = now_more p (after p s f) r e

legal_more : (p : Plan) (s : State) (r : List Event) (e : Event) → LegalFrom p s r → Allowed p (now_from p s r) e → LegalFrom p s (r ++ e ∷ [])
legal_more p s [] e legal allowed = (allowed, tt)
legal_more p s (f ∷ r) e legal allowed = (legal.0, legal_more p (after p s f) r e legal.1 allowed)

-- every allowed entry keeps a state sound
pub sound_now : (p : Plan) → ((s : State) (e : Event) → IsSoundState p s → Allowed p s e → IsSoundState p (after p s e)) → (s : State) (r : List Event) → IsSoundState p s → LegalFrom p s r → IsSoundState p (now_from p s r)
sound_now p keeps s [] sound l = sound
sound_now p keeps s (e ∷ r) sound l = sound_now p keeps (after p s e) r (keeps s e sound l.0) l.1

moved_on : (past r : List Event) (e : Event) → (past ++ e ∷ []) ++ r ≡ past ++ e ∷ r
moved_on past r e = append_assoc past (e ∷ []) r

pub not_true : (b : Bool) → (b ≡ true → ⊥) → b ≡ false
not_true true h = absurd (h refl)
not_true false h = refl

true_false : (b : Bool) → b ≡ true → b ≡ false → ⊥
true_false b h k = absurd cc

module _ (p : Plan) (plan_laws : HasPlanLaws p) (order : List ℕ) (laws : HasRecordLaws p order) where
  pub is_read : (r : List Event) → Legal p order r → IsRead p r (now p order r)
  is_read r legal = laws.reads_so r legal

  pub sound_here : (r : List Event) → Legal p order r → IsSoundState p (now p order r)
  sound_here r legal = laws.sound r legal

  -- a task whose parents have ended in the state has parents that have ended in the record
  ended_in : (r : List Event) → Legal p order r → (u : ℕ) → ended ((now p order r).phase u) ≡ true → list_any (ends u) r ≡ true
  ended_in r legal u h = sym ((is_read r legal).ended u) ∙ h

  -- the parents of an open task have ended
  pub open_after : (r : List Event) (w t u : ℕ) → Legal p order r → IsOpen (now p order r) w t → has (parents p t) u ≡ true → list_any (ends u) r ≡ true
  open_after r w t u legal opened_ h = ended_in r legal u ((sound_here r legal).running_parents t u opened_.runs h)

  -- the parents of the Choice have ended
  pub choice_after : (r : List Event) (t u : ℕ) → Legal p order r → IsChoice p (now p order r) t → has (parents p t) u ≡ true → list_any (ends u) r ≡ true
  choice_after r t u legal choice h = ended_in r legal u (choice.can.parents_ended u h)

  -- an open task hasn't ended
  pub open_not_ended : (r : List Event) (w t : ℕ) → Legal p order r → IsOpen (now p order r) w t → list_any (ends t) r ≡ false
  open_not_ended r w t legal opened_ = sym ((is_read r legal).ended t) ∙ ap ended opened_.runs

  pub legal_next : (past : List Event) (e : Event) → Legal p order past → Allowed p (now p order past) e → Legal p order (past ++ e ∷ [])
  legal_next past e legal allowed = legal_more p (opened order) past e legal allowed

  pub from_next : (past r : List Event) (e : Event) → LegalFrom p (after p (now p order past) e) r → LegalFrom p (now p order (past ++ e ∷ [])) r
  from_next past r e l = subst (λ s. LegalFrom p s r) (sym (now_more p (opened order) past e)) l

  pub ended_longer : (r s : List Event) (t : ℕ) → list_any (ends t) r ≡ true → list_any (ends t) (r ++ s) ≡ true
  ended_longer r s t h = list_any-append (ends t) r s ∙ or_left (list_any (ends t) r) (list_any (ends t) s) h

  -- a pair is swept after all its readers have ended
  sweep_ends : (past : List Event) (e : Event) (t q : ℕ) → Legal p order past → Allowed p (now p order past) e → frees p q e ≡ true → has (reads p t) q ≡ true → list_any (ends t) past ≡ true
  sweep_ends past (Grant w u) t q legal a f h = absurd cc
  sweep_ends past (Regrant w u) t q legal a f h = absurd cc
  sweep_ends past (Arrive w u n) t q legal a f h = absurd cc
  sweep_ends past (End w u ns) t q legal a f h = absurd cc
  sweep_ends past (Fail w u c ns) t q legal a f h = absurd cc
  sweep_ends past (Again w u c ns) t q legal a f h = absurd cc
  sweep_ends past (Clean w u) t q legal a f h = choice_after past u t legal a.2 (plan_laws.cleans_after u t q f (or_right (has (writes p t) q) (has (reads p t) q) h))

  swept_after : (past r : List Event) (t q : ℕ) → Legal p order past → LegalFrom p (now p order past) r → has (reads p t) q ≡ true → is_swept p r q ≡ true → list_any (ends t) (past ++ r) ≡ true
  unfolding is_swept
  swept_after past [] t q legal l h f = absurd cc
  swept_after past (e ∷ r) t q legal l h f = elim (either (frees p q e) (list_any (frees p q) r) f) [
    | inl d ↦ ended_longer past (e ∷ r) t (sweep_ends past e t q legal l.0 d h)
    | inr d ↦ subst (λ z. list_any (ends t) z ≡ true) (moved_on past r e) (swept_after (past ++ e ∷ []) r t q (legal_next past e legal l.0) (from_next past r e l.1) h d)
  ]

  -- no pair that an open task reads is swept
  pub not_swept : (r : List Event) (w t q : ℕ) → Legal p order r → IsOpen (now p order r) w t → has (reads p t) q ≡ true → is_swept p r q ≡ false
  not_swept r w t q legal opened_ h = not_true (is_swept p r q) (λ f. true_false (list_any (ends t) r) (swept_after [] r t q tt legal h f) (open_not_ended r w t legal opened_))
