-- Room for entries: how many may still come of each task.
use Rattle.std.proofs.Common.{cond, ◌≡◌, ℕ, ◌+◌, ◌≤◌, ◌<◌, ◌≢◌, Bool, true, false, eqb, eqb-true, inl, inr, refl, sym, ap, ◌∙◌, arith}
use Rattle.std.specs.Prelude.{◌⊎◌}
use Rattle.lease_rules.proofs.SoundLemmas.{choice_in, false_of, fresh_among, is_waiting, put_at, put_off, sound_more}
use Rattle.lease_rules.proofs.TotalLemmas.{total_change}
use Rattle.lease_rules.specs.Choice.{IsChoice}
use Rattle.lease_rules.specs.code.Law.{HasStorageLaws, IsConsistent}
use Rattle.lease_rules.specs.Legal.{Allowed, IsOpen}
use Rattle.lease_rules.specs.code.Room.{entries_of, entries_room, task_room}
use Rattle.lease_rules.specs.State.{State, after, put}
use Rattle.plan_core.specs.Numbers.{below}
use Rattle.plan_core.specs.Words.{count_tasks, is_clean, retries}
use Rattle.plan_core.specs.declared.plan.Plan.{Plan}
use Rattle.run_record.specs.Events.{Again, Arrive, Clean, End, Event, Fail, Grant, Regrant}
use Rattle.storage_simulation.specs.Standings.{waits}
use Rattle.storage_simulation.specs.declared.standing.Phase.{Phase}
use Rattle.storage_simulation.specs.declared.standing.Phase.TheVariants.{Ended, Runs, Waits}

-- only t changes, and less is left of it
moved : (p : Plan) (s new : State) (t : ℕ) → t < count_tasks p → ((u : ℕ) → eqb t u ≡ false → task_room p new u ≡ task_room p s u) → task_room p new t + 1 ≤ task_room p s t → entries_room p new + 1 ≤ entries_room p s
moved p s new t below same less =
    let change = total_change (task_room p new) (task_room p s) (count_tasks p) t below (λ u ne. same u (off u ne)) in
    omega (arith, change, less)
  where
    off : (u : ℕ) → u ≢ t → eqb t u ≡ false
    off u ne = false_of (eqb t u) (λ e. ne (sym (eqb-true t u e)))

falls_grant : (f : Bool) (x : Phase) (a r : ℕ) → f ≡ false → x ≡ Waits → entries_of f Runs a r + 1 ≤ entries_of f x a r
falls_grant true x a r e w = absurd cc
falls_grant false Waits a r e w = omega arith
falls_grant false Runs a r e w = absurd cc
falls_grant false Ended a r e w = absurd cc

falls_end : (f : Bool) (x : Phase) (a r : ℕ) → f ≡ false → (x ≡ Ended → ⊥) → entries_of f Ended a r + 1 ≤ entries_of f x a r
falls_end true x a r e w = absurd cc
falls_end false Waits a r e w = omega arith
falls_end false Runs a r e w = omega arith
falls_end false Ended a r e w = absurd (w refl)

falls_again : (f : Bool) (x : Phase) (a r : ℕ) → f ≡ false → (x ≡ Ended → ⊥) → a < r → entries_of f Waits (a + 1) r + 1 ≤ entries_of f x a r
falls_again true x a r e w l = absurd cc
falls_again false Waits a r e w l = omega arith
falls_again false Runs a r e w l = omega arith
falls_again false Ended a r e w l = absurd (w refl)

falls_fail : (f : Bool) (x : Phase) (a r : ℕ) → f ≡ false → (x ≡ Ended → ⊥) → entries_of true x a r + 1 ≤ entries_of f x a r
falls_fail true x a r e w = absurd cc
falls_fail false Waits a r e w = omega arith
falls_fail false Runs a r e w = omega arith
falls_fail false Ended a r e w = absurd (w refl)

pub room_falls : (p : Plan) (s : State) (e : Event) → IsConsistent p s → Allowed p s e → entries_room p (after p s e) + 1 ≤ entries_room p s
room_falls p s e good allowed = by_entry e allowed
  where
    unfailed : s.failing ≡ false → (t : ℕ) → s.failed t ≡ false
    unfailed e t = false_of (s.failed t) (λ h. let k = good.failed_fails t h in absurd cc)

    waiting : (t : ℕ) → waits (s.phase t) ≡ true → s.phase t ≡ Waits
    waiting t h = is_waiting (s.phase t) h

    in_choice : (t : ℕ) → IsChoice p s t → s.phase t ≡ Waits
    in_choice t choice = waiting t (good.sound.safe.waiting t (choice_in p s t choice))

    at : {X : Type 0} (f : ℕ → X) (t : ℕ) (x : X) → put f t x t ≡ x
    at f t x = put_at f t x

    grant : (t : ℕ) (new : State) → new.failed ≡ s.failed → new.agains ≡ s.agains → new.phase ≡ put s.phase t Runs → t < count_tasks p → s.failing ≡ false → s.phase t ≡ Waits → entries_room p new + 1 ≤ entries_room p s
    grant t new a b c below none w = moved p s new t below
        (λ u off. ap (λ (f : ℕ → Bool). entries_of (f u) (new.phase u) (new.agains u) (retries p)) a
        ∙ ap (λ (f : ℕ → ℕ). entries_of (s.failed u) (new.phase u) (f u) (retries p)) b
        ∙ ap (λ (x : Phase). entries_of (s.failed u) x (s.agains u) (retries p)) (ap (λ (f : ℕ → Phase). f u) c ∙ put_off s.phase t Runs u off))
        (let is : task_room p new t ≡ entries_of (s.failed t) Runs (s.agains t) (retries p)
        = ap (λ (f : ℕ → Bool). entries_of (f t) (new.phase t) (new.agains t) (retries p)) a
        ∙ ap (λ (f : ℕ → ℕ). entries_of (s.failed t) (new.phase t) (f t) (retries p)) b
        ∙ ap (λ (x : Phase). entries_of (s.failed t) x (s.agains t) (retries p)) (ap (λ (f : ℕ → Phase). f t) c ∙ at s.phase t Runs) in
        omega (arith, is, falls_grant (s.failed t) (s.phase t) (s.agains t) (retries p) (unfailed none t) w))

    end : (t : ℕ) (new : State) → new.failed ≡ s.failed → new.agains ≡ s.agains → new.phase ≡ put s.phase t Ended → t < count_tasks p → s.failed t ≡ false → (s.phase t ≡ Ended → ⊥) → entries_room p new + 1 ≤ entries_room p s
    end t new a b c below none w = moved p s new t below
        (λ u off. ap (λ (f : ℕ → Bool). entries_of (f u) (new.phase u) (new.agains u) (retries p)) a
        ∙ ap (λ (f : ℕ → ℕ). entries_of (s.failed u) (new.phase u) (f u) (retries p)) b
        ∙ ap (λ (x : Phase). entries_of (s.failed u) x (s.agains u) (retries p)) (ap (λ (f : ℕ → Phase). f u) c ∙ put_off s.phase t Ended u off))
        (let is : task_room p new t ≡ entries_of (s.failed t) Ended (s.agains t) (retries p)
        = ap (λ (f : ℕ → Bool). entries_of (f t) (new.phase t) (new.agains t) (retries p)) a
        ∙ ap (λ (f : ℕ → ℕ). entries_of (s.failed t) (new.phase t) (f t) (retries p)) b
        ∙ ap (λ (x : Phase). entries_of (s.failed t) x (s.agains t) (retries p)) (ap (λ (f : ℕ → Phase). f t) c ∙ at s.phase t Ended) in
        omega (arith, is, falls_end (s.failed t) (s.phase t) (s.agains t) (retries p) none w))

    again : (t : ℕ) (new : State) → new.failed ≡ s.failed → new.agains ≡ put s.agains t (s.agains t + 1) → new.phase ≡ put s.phase t Waits → t < count_tasks p → s.failed t ≡ false → (s.phase t ≡ Ended → ⊥) → s.agains t < (retries p) → entries_room p new + 1 ≤ entries_room p s
    again t new a b c below none w l = moved p s new t below
        (λ u off. ap (λ (f : ℕ → Bool). entries_of (f u) (new.phase u) (new.agains u) (retries p)) a
        ∙ ap (λ (n : ℕ). entries_of (s.failed u) (new.phase u) n (retries p)) (ap (λ (f : ℕ → ℕ). f u) b ∙ put_off s.agains t (s.agains t + 1) u off)
        ∙ ap (λ (x : Phase). entries_of (s.failed u) x (s.agains u) (retries p)) (ap (λ (f : ℕ → Phase). f u) c ∙ put_off s.phase t Waits u off))
        (let is : task_room p new t ≡ entries_of (s.failed t) Waits (s.agains t + 1) (retries p)
        = ap (λ (f : ℕ → Bool). entries_of (f t) (new.phase t) (new.agains t) (retries p)) a
        ∙ ap (λ (n : ℕ). entries_of (s.failed t) (new.phase t) n (retries p)) (ap (λ (f : ℕ → ℕ). f t) b ∙ at s.agains t (s.agains t + 1))
        ∙ ap (λ (x : Phase). entries_of (s.failed t) x (s.agains t + 1) (retries p)) (ap (λ (f : ℕ → Phase). f t) c ∙ at s.phase t Waits) in
        omega (arith, is, falls_again (s.failed t) (s.phase t) (s.agains t) (retries p) none w l))

    fail : (t : ℕ) → t < count_tasks p → s.failed t ≡ false → (s.phase t ≡ Ended → ⊥) → (new : State) → new.failed ≡ put s.failed t true → new.agains ≡ s.agains → new.phase ≡ s.phase → entries_room p new + 1 ≤ entries_room p s
    fail t below none w new a b c = moved p s new t below
        (λ u off. ap (λ (x : Bool). entries_of x (new.phase u) (new.agains u) (retries p)) (ap (λ (f : ℕ → Bool). f u) a ∙ put_off s.failed t true u off)
        ∙ ap (λ (f : ℕ → ℕ). entries_of (s.failed u) (new.phase u) (f u) (retries p)) b
        ∙ ap (λ (f : ℕ → Phase). entries_of (s.failed u) (f u) (s.agains u) (retries p)) c)
        (let is : task_room p new t ≡ entries_of true (s.phase t) (s.agains t) (retries p)
        = ap (λ (x : Bool). entries_of x (new.phase t) (new.agains t) (retries p)) (ap (λ (f : ℕ → Bool). f t) a ∙ at s.failed t true)
        ∙ ap (λ (f : ℕ → ℕ). entries_of true (new.phase t) (f t) (retries p)) b
        ∙ ap (λ (f : ℕ → Phase). entries_of true (f t) (s.agains t) (retries p)) c in
        omega (arith, is, falls_fail (s.failed t) (s.phase t) (s.agains t) (retries p) none w))

    caught : (w t : ℕ) → IsOpen s w t ⊎ ((is_clean p t ≡ true) × IsChoice p s t) → (t < count_tasks p) × (s.failed t ≡ false) × (s.phase t ≡ Ended → ⊥)
    caught w t (inl o) = ((good.sound.running_kind t o.runs).1, o.no_fail, λ e. let r = o.runs in absurd cc)
    caught w t (inr k) = (good.sound.safe.tasks t (choice_in p s t k.1), unfailed k.1.no_fail t, λ e. let r = in_choice t k.1 in absurd cc)

    by_entry : (d : Event) → Allowed p s d → entries_room p (after p s d) + 1 ≤ entries_room p s
    by_entry (Grant w t) a = grant t (after p s (Grant w t)) refl refl refl (good.sound.safe.tasks t (choice_in p s t a.2)) a.2.no_fail (in_choice t a.2)
    by_entry (Regrant w t) a = let parts = fresh_among p s 4 s.rest t a.1.among in grant t (after p s (Regrant w t)) refl refl refl (good.sound.safe.tasks t parts.2) a.1.no_fail (waiting t (good.sound.safe.waiting t parts.2))
    by_entry (Arrive w t n) a = end t (after p s (Arrive w t n)) refl refl refl (good.sound.running_kind t a.2.runs).1 a.2.no_fail (λ e. let r = a.2.runs in absurd cc)
    by_entry (End w t ns) a = end t (after p s (End w t ns)) refl refl refl (good.sound.running_kind t a.2.runs).1 a.2.no_fail (λ e. let r = a.2.runs in absurd cc)
    by_entry (Clean w t) a = end t (after p s (Clean w t)) refl refl refl (good.sound.safe.tasks t (choice_in p s t a.2)) (unfailed a.2.no_fail t) (λ e. let r = in_choice t a.2 in absurd cc)
    by_entry (Again w t c ns) a = let k = caught w t a.1 in again t (after p s (Again w t c ns)) refl refl refl k.0 k.1 k.2 a.5
    by_entry (Fail w t c ns) a = let k = caught w t a.1 in fail t k.0 k.1 k.2 (after p s (Fail w t c ns)) refl refl refl

-- what else is kept
pub consistent_more : (p : Plan) (s : State) (e : Event) → HasStorageLaws p → IsConsistent p s → Allowed p s e → IsConsistent p (after p s e)
consistent_more p s e proper good allowed = record { sound = sound_more p s e proper good.sound allowed; failed_fails = by_entry e; few_agains = few e allowed }
  where
    by_entry : (d : Event) (t : ℕ) → (after p s d).failed t ≡ true → (after p s d).failing ≡ true
    by_entry (Grant w u) t h = good.failed_fails t h
    by_entry (Regrant w u) t h = good.failed_fails t h
    by_entry (Arrive w u n) t h = good.failed_fails t h
    by_entry (End w u ns) t h = good.failed_fails t h
    by_entry (Clean w u) t h = good.failed_fails t h
    by_entry (Again w u c ns) t h = good.failed_fails t h
    by_entry (Fail w u c ns) t h = refl

    few : (d : Event) → Allowed p s d → (t : ℕ) → (after p s d).agains t ≤ retries p
    few (Grant w u) a t = good.few_agains t
    few (Regrant w u) a t = good.few_agains t
    few (Arrive w u n) a t = good.few_agains t
    few (End w u ns) a t = good.few_agains t
    few (Clean w u) a t = good.few_agains t
    few (Again w u c ns) a t = small (eqb u t) (s.agains u + 1) (s.agains t) (let l = a.5 in omega (arith, l)) (good.few_agains t)
      where
        small : (b : Bool) (x y : ℕ) → x ≤ retries p → y ≤ retries p → cond b x y ≤ retries p
        small true x y l m = l
        small false x y l m = m
    few (Fail w u c ns) a t = good.few_agains t
