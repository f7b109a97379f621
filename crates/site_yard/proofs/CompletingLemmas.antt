-- What complete records have delivered.
use Rattle.std.proofs.Common.{◌≡◌, ℕ, ◌<◌, ◌⊎◌, inl, inr, true, false, List, [], ◌∷◌, sym, ap, ◌∙◌, subst}
use Rattle.std.specs.Prelude.{Option, Some, None, ◌≤◌}
use Rattle.std.specs.List.{list_any}
use Rattle.std.proofs.lemmas.Bool.{cases_lt}
use Rattle.std.proofs.lemmas.Option.{slice_get_past}
use Rattle.plan_core.specs.declared.plan.Plan.{Plan}
use Rattle.plan_core.specs.declared.plan.TaskKind.{TaskKind}
use Rattle.plan_core.specs.declared.plan.TaskKind.TheVariants.{Transfer, Run, Clean as CleanTask}
use Rattle.plan_core.specs.Words.{count_tasks, delivers, is_clean_kind, is_run_kind, kind, kind_delivers, kind_in}
use Rattle.plan_core.proofs.TestLemmas.{either, or_left, or_right, same_number}
use Rattle.run_record.specs.Events.{Event, Grant, Arrive, End, Clean, Fail, Again, Regrant}
use Rattle.lease_rules.specs.Legal.{IsComplete, Legal}
use Rattle.lease_rules.specs.code.Reading.{ends}
use Rattle.lease_rules.specs.State.{now, opened}
use Rattle.site_yard.specs.code.Law.{HasRecordLaws}
use Rattle.site_yard.specs.code.Places.{delivers_file, is_delivered}
use Rattle.site_yard.proofs.SuitsLemmas.{AllSuit, Suits, legal_suits}

-- a delivery is neither a Run nor a Clean, and is a task
no_run : (k : Option TaskKind) (f : ℕ) → kind_delivers k f ≡ true → is_run_kind k ≡ true → ⊥
no_run None f h run = absurd cc
no_run (Some (Transfer g from to)) f h run = absurd cc
no_run (Some (Run s js)) f h run = absurd cc
no_run (Some (CleanTask q)) f h run = absurd cc

no_clean : (k : Option TaskKind) (f : ℕ) → kind_delivers k f ≡ true → is_clean_kind k ≡ true → ⊥
no_clean None f h clean = absurd cc
no_clean (Some (Transfer g from to)) f h clean = absurd cc
no_clean (Some (Run s js)) f h clean = absurd cc
no_clean (Some (CleanTask q)) f h clean = absurd cc

no_kind : (p : Plan) (t : ℕ) → count_tasks p ≤ t → kind p t ≡ None
unfolding kind
no_kind p t l = ap kind_in (slice_get_past p.tasks t l)

delivery_below : (p : Plan) (t f : ℕ) → delivers p t f ≡ true → t < count_tasks p
delivery_below p t f h = by (cases_lt t (count_tasks p))
  where
    by : (t < count_tasks p) ⊎ (count_tasks p ≤ t) → t < count_tasks p
    by (inl l) = l
    by (inr l) = absurd (let k : false ≡ true = sym (ap (λ (o : Option TaskKind). kind_delivers o f) (no_kind p t l)) ∙ h in cc)

-- a delivery ends by its Arrive
delivers_here : (p : Plan) (e : Event) (t f : ℕ) → Suits p e → delivers p t f ≡ true → ends t e ≡ true → delivers_file p f e ≡ true
delivers_here p (Grant w u) t f suits h end = absurd cc
delivers_here p (Regrant w u) t f suits h end = absurd cc
delivers_here p (Fail w u c ns) t f suits h end = absurd cc
delivers_here p (Again w u c ns) t f suits h end = absurd cc
delivers_here p (Arrive w u n) t f suits h end = subst (λ x. delivers p x f ≡ true) (sym (same_number u t end)) h
delivers_here p (End w u ns) t f suits h end = absurd (no_run (kind p u) f (subst (λ x. delivers p x f ≡ true) (sym (same_number u t end)) h) suits.0)
delivers_here p (Clean w u) t f suits h end = absurd (no_clean (kind p u) f (subst (λ x. delivers p x f ≡ true) (sym (same_number u t end)) h) suits)

ended_delivers : (p : Plan) (r : List Event) (t f : ℕ) → AllSuit p r → delivers p t f ≡ true → list_any (ends t) r ≡ true → is_delivered p r f ≡ true
unfolding is_delivered
ended_delivers p [] t f suits h end = absurd cc
ended_delivers p (e ∷ r) t f suits h end = elim (either (ends t e) (list_any (ends t) r) end) [
  | inl d ↦ or_left (delivers_file p f e) (list_any (delivers_file p f) r) (delivers_here p e t f suits.0 h d)
  | inr d ↦ or_right (delivers_file p f e) (list_any (delivers_file p f) r) (ended_delivers p r t f suits.1 h d)
]

pub complete_delivers : (p : Plan) (order : List ℕ) → HasRecordLaws p order → (r : List Event) → Legal p order r → IsComplete p (now p order r) → (t f : ℕ) → delivers p t f ≡ true → is_delivered p r f ≡ true
complete_delivers p order laws r legal complete t f h =
    ended_delivers p r t f (legal_suits p (opened order) r legal) h (sym ((laws.reads_so r legal).ended t) ∙ complete.all_ended t (delivery_below p t f h))

-- what was delivered a task delivers
delivered_here : (p : Plan) (e : Event) (f : ℕ) → delivers_file p f e ≡ true → (t : ℕ) × (delivers p t f ≡ true)
delivered_here p (Arrive w t n) f h = (t, h)
delivered_here p e f h = absurd cc

pub delivered_by : (p : Plan) (r : List Event) (f : ℕ) → is_delivered p r f ≡ true → (t : ℕ) × (delivers p t f ≡ true)
unfolding is_delivered
delivered_by p [] f h = absurd cc
delivered_by p (e ∷ r) f h = elim (either (delivers_file p f e) (list_any (delivers_file p f) r) h) [
  | inl d ↦ delivered_here p e f d
  | inr d ↦ delivered_by p r f d
]
