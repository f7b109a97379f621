-- What follows a record that is over.
use Rattle.std.proofs.Common.{◌≡◌, ℕ, ◌<◌, true, false, inl, inr, List, [], ◌∷◌, ◌++◌, refl, ap}
use Rattle.lease_rules.proofs.OwningLemmas.{chosen_waits}
use Rattle.lease_rules.proofs.RoomLemmas.{consistent_more}
use Rattle.lease_rules.proofs.SoundLemmas.{choice_in, fresh_among, is_waiting}
use Rattle.lease_rules.specs.Choice.{IsChoice}
use Rattle.lease_rules.specs.code.Law.{HasStorageLaws, IsConsistent}
use Rattle.lease_rules.specs.Legal.{Allowed, IsComplete, LegalFrom, MayFail}
use Rattle.lease_rules.specs.State.{State, after, ended, now_from}
use Rattle.plan_core.specs.Words.{count_tasks}
use Rattle.plan_core.specs.declared.plan.Plan.{Plan}
use Rattle.run_record.specs.Events.{Again, Arrive, Clean, End, Event, Fail, Grant, Regrant}
use Rattle.storage_simulation.specs.declared.standing.Phase.TheVariants.{Runs, Waits}

-- a task that has ended neither waits nor runs
none_waits : (p : Plan) (s : State) (t : ℕ) → IsComplete p s → t < count_tasks p → s.phase t ≡ Waits → ⊥
none_waits p s t complete below waits = let a : ended (s.phase t) ≡ false = ap ended waits in let b = complete.all_ended t below in cc

none_runs : (p : Plan) (s : State) (t : ℕ) → IsConsistent p s → IsComplete p s → s.phase t ≡ Runs → ⊥
none_runs p s t k complete runs = let a : ended (s.phase t) ≡ false = ap ended runs in let b = complete.all_ended t (k.sound.running_kind t runs).1 in cc

none_chosen : (p : Plan) (s : State) (t : ℕ) → IsConsistent p s → IsComplete p s → IsChoice p s t → ⊥
none_chosen p s t k complete choice = none_waits p s t complete (k.sound.safe.tasks t (choice_in p s t choice)) (chosen_waits p s t k choice)

none_caught : (p : Plan) (s : State) (w t : ℕ) → IsConsistent p s → IsComplete p s → MayFail p s w t → ⊥
none_caught p s w t k complete (inl o) = none_runs p s t k complete o.runs
none_caught p s w t k complete (inr c) = none_chosen p s t k complete c.1

refused : (p : Plan) (s : State) (e : Event) → IsConsistent p s → IsComplete p s → Allowed p s e → ⊥
refused p s (Grant w t) k complete a = none_chosen p s t k complete a.2
refused p s (Regrant w t) k complete a =
    let left = (fresh_among p s 4 s.rest t a.1.among).2 in none_waits p s t complete (k.sound.safe.tasks t left) (is_waiting (s.phase t) (k.sound.safe.waiting t left))
refused p s (Arrive w t n) k complete a = none_runs p s t k complete a.2.runs
refused p s (End w t ns) k complete a = none_runs p s t k complete a.2.runs
refused p s (Clean w t) k complete a = none_chosen p s t k complete a.2
refused p s (Again w t c ns) k complete a = none_caught p s w t k complete a.1
refused p s (Fail w t c ns) k complete a = none_caught p s w t k complete a.1

-- nothing follows a complete record
pub complete_ends : (p : Plan) (s : State) (r more : List Event) → HasStorageLaws p → IsConsistent p s → LegalFrom p s (r ++ more) → IsComplete p (now_from p s r) → more ≡ []
complete_ends p s [] [] laws k legal complete = refl
complete_ends p s [] (e ∷ more) laws k legal complete = absurd (refused p s e k complete legal.0)
complete_ends p s (e ∷ r) more laws k legal complete = complete_ends p (after p s e) r more laws (consistent_more p s e laws k legal.0) legal.1 complete

-- where a Fail stands, one stands later on
still_fails : (p : Plan) (s : State) (more : List Event) → s.failing ≡ true → (now_from p s more).failing ≡ true
still_fails p s [] h = h
still_fails p s (e ∷ more) h = still_fails p (after p s e) more (by_entry e)
  where
    by_entry : (d : Event) → (after p s d).failing ≡ true
    by_entry (Grant w t) = h
    by_entry (Regrant w t) = h
    by_entry (Arrive w t n) = h
    by_entry (End w t ns) = h
    by_entry (Clean w t) = h
    by_entry (Again w t c ns) = h
    by_entry (Fail w t c ns) = refl

pub failing_stays : (p : Plan) (s : State) (r more : List Event) → (now_from p s r).failing ≡ true → (now_from p s (r ++ more)).failing ≡ true
failing_stays p s [] more h = still_fails p s more h
failing_stays p s (e ∷ r) more h = failing_stays p (after p s e) r more h
