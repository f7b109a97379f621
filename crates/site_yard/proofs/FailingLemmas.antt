-- The state is failing exactly where a Fail stands.
use Rattle.std.proofs.Common.{◌≡◌, ℕ, Bool, true, false, List, [], ◌∷◌, refl, sym, ◌∙◌}
use Rattle.std.specs.Prelude.{Option, Some, None, option_map, is_some}
use Rattle.plan_core.specs.declared.plan.Plan.{Plan}
use Rattle.run_record.specs.Events.{Event, Grant, Arrive, End, Clean, Fail, Again, Regrant}
use Rattle.lease_rules.specs.State.{State, after, failing_after, now, now_from, opened}
use Rattle.site_yard.specs.code.Ending.{fault_of, first_failed, first_fault}
use Rattle.site_yard.specs.declared.ending.Failed.{Failed}

none_failing : (p : Plan) (s : State) (r : List Event) → first_failed r ≡ None → (now_from p s r).failing ≡ s.failing
none_failing p s [] h = refl
none_failing p s (Grant w t ∷ r) h = none_failing p (after p s (Grant w t)) r h
none_failing p s (Regrant w t ∷ r) h = none_failing p (after p s (Regrant w t)) r h
none_failing p s (Arrive w t n ∷ r) h = none_failing p (after p s (Arrive w t n)) r h
none_failing p s (End w t ns ∷ r) h = none_failing p (after p s (End w t ns)) r h
none_failing p s (Clean w t ∷ r) h = none_failing p (after p s (Clean w t)) r h
none_failing p s (Again w t c ns ∷ r) h = none_failing p (after p s (Again w t c ns)) r h
none_failing p s (Fail w t c ns ∷ r) h = absurd cc

still_failing : (e : Event) (b : Bool) → b ≡ true → failing_after e b ≡ true
still_failing (Fail w t c ns) b h = refl
still_failing e b h = h

stays_failing : (p : Plan) (s : State) (r : List Event) → s.failing ≡ true → (now_from p s r).failing ≡ true
stays_failing p s [] h = h
stays_failing p s (e ∷ r) h = stays_failing p (after p s e) r (still_failing e s.failing h)

some_failing : (p : Plan) (s : State) (r : List Event) (f : Failed) → first_failed r ≡ Some f → (now_from p s r).failing ≡ true
some_failing p s [] f h = absurd cc
some_failing p s (Grant w t ∷ r) f h = some_failing p (after p s (Grant w t)) r f h
some_failing p s (Regrant w t ∷ r) f h = some_failing p (after p s (Regrant w t)) r f h
some_failing p s (Arrive w t n ∷ r) f h = some_failing p (after p s (Arrive w t n)) r f h
some_failing p s (End w t ns ∷ r) f h = some_failing p (after p s (End w t ns)) r f h
some_failing p s (Clean w t ∷ r) f h = some_failing p (after p s (Clean w t)) r f h
some_failing p s (Again w t c ns ∷ r) f h = some_failing p (after p s (Again w t c ns)) r f h
some_failing p s (Fail w t c ns ∷ r) f h = stays_failing p (after p s (Fail w t c ns)) r refl

no_fault : (p : Plan) (o : Option Failed) → option_map (λ (f : Failed). fault_of p f.task f.cause) o ≡ None → o ≡ None
no_fault p None h = refl
no_fault p (Some f) h = absurd cc

pub none_unfailing : (p : Plan) (order : List ℕ) (r : List Event) → first_fault p r ≡ None → (now p order r).failing ≡ false
none_unfailing p order r h = none_failing p (opened order) r (no_fault p (first_failed r) h)

pub unfailing_none : (p : Plan) (order : List ℕ) (r : List Event) → (now p order r).failing ≡ false → first_fault p r ≡ None
unfailing_none p order r h = by (first_failed r) refl
  where
    by : (o : Option Failed) → first_failed r ≡ o → option_map (λ (f : Failed). fault_of p f.task f.cause) o ≡ None
    by None e = refl
    by (Some f) e = absurd (let k : true ≡ false = sym (some_failing p (opened order) r f e) ∙ h in cc)

pub failing_some : (p : Plan) (order : List ℕ) (r : List Event) → (now p order r).failing ≡ true → is_some (first_failed r) ≡ true
failing_some p order r h = by (first_failed r) refl
  where
    by : (o : Option Failed) → first_failed r ≡ o → is_some o ≡ true
    by None e = absurd (let k : true ≡ false = sym h ∙ none_failing p (opened order) r e in cc)
    by (Some f) e = refl
