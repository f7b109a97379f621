-- Room for the sizes of entries.
use Rattle.std.proofs.Common.{◌≡◌, ℕ, ◌+◌, ◌-◌, ◌*◌, ◌≤◌, ◌<◌, ◌≢◌, Bool, true, false, cond, eqb, eqb-true, inl, inr, List, [], ◌∷◌, length, refl, sym, ap, ◌∙◌, arith}
use Rattle.lease_rules.proofs.SoundLemmas.{choice_in, declared_long, false_of, fresh_among, is_waiting, put_at, put_off}
use Rattle.lease_rules.proofs.TotalLemmas.{total_change}
use Rattle.lease_rules.specs.Choice.{IsChoice}
use Rattle.lease_rules.specs.code.Law.{IsConsistent}
use Rattle.lease_rules.specs.Legal.{Allowed, AreOfFirst, CauseFits, MayFail}
use Rattle.lease_rules.specs.code.Room.{listed, sizes_left, sizes_of, sizes_room}
use Rattle.lease_rules.specs.State.{State, after, put}
use Rattle.plan_core.specs.Numbers.{below}
use Rattle.plan_core.specs.Words.{count_tasks, retries}
use Rattle.plan_core.specs.declared.plan.Plan.{Plan}
use Rattle.run_record.specs.Events.{Again, Arrive, Clean, End, Event, Fail, Grant, Regrant}
use Rattle.run_record.specs.declared.entry.Cause.{Cause}
use Rattle.run_record.specs.declared.entry.Cause.TheVariants.{Absent, Checksum, Declined, HostFailed, Memory, Oversize, TooLong, ToolFailed}
use Rattle.storage_simulation.specs.Goods.{makes}
use Rattle.storage_simulation.specs.declared.standing.Phase.{Phase}
use Rattle.storage_simulation.specs.declared.standing.Phase.TheVariants.{Ended, Runs, Waits}

-- only t changes, and k less is left of it
moved : (p : Plan) (s new : State) (t k : ℕ) → t < count_tasks p
    → ((u : ℕ) → eqb t u ≡ false → new.failed u ≡ s.failed u) → ((u : ℕ) → eqb t u ≡ false → new.phase u ≡ s.phase u) → ((u : ℕ) → eqb t u ≡ false → new.agains u ≡ s.agains u)
    → sizes_of p t (new.failed t) (new.phase t) (new.agains t) + k ≤ sizes_of p t (s.failed t) (s.phase t) (s.agains t) → sizes_room p new + k ≤ sizes_room p s
moved p s new t k below a b c less =
    let change = total_change (λ u. sizes_of p u (new.failed u) (new.phase u) (new.agains u)) (λ u. sizes_of p u (s.failed u) (s.phase u) (s.agains u)) (count_tasks p) t below (λ u ne. same u (off u ne)) in
    omega (arith, change, less)
  where
    off : (u : ℕ) → u ≢ t → eqb t u ≡ false
    off u ne = false_of (eqb t u) (λ e. ne (sym (eqb-true t u e)))

    same : (u : ℕ) → eqb t u ≡ false → sizes_of p u (new.failed u) (new.phase u) (new.agains u) ≡ sizes_of p u (s.failed u) (s.phase u) (s.agains u)
    same u e = ap (λ (f : Bool). sizes_of p u f (new.phase u) (new.agains u)) (a u e) ∙ ap (λ (x : Phase). sizes_of p u (s.failed u) x (new.agains u)) (b u e) ∙ ap (λ (n : ℕ). sizes_of p u (s.failed u) (s.phase u) n) (c u e)

one_of : (n m k : ℕ) → k ≤ m → k ≤ (n + 1) * m
one_of n m k l = grind (arith, l)

one_less : (n m k : ℕ) → k ≤ m → (n + 1) * m + k ≤ (n + 2) * m
one_less n m k l = grind (arith, l)

short_long : (p : Plan) (qs ns : List ℕ) → AreOfFirst p qs ns → length ns ≤ length qs
short_long p [] [] h = omega arith
short_long p (q ∷ qs) [] h = omega arith
short_long p [] (n ∷ ns) h = absurd h
short_long p (q ∷ qs) (n ∷ ns) h = let l = short_long p qs ns h.1 in omega (arith, l)

empty_short : (ns : List ℕ) (m : ℕ) → ns ≡ [] → length ns ≤ m
empty_short ns m e = let l = ap length e in omega (arith, l)

fits_short : (p : Plan) (t : ℕ) (c : Cause) (ns : List ℕ) → CauseFits p t c ns → length ns ≤ length (makes p t)
fits_short p t (ToolFailed j) ns h = empty_short ns (length (makes p t)) h.1
fits_short p t HostFailed ns h = short_long p (makes p t) ns h.1
fits_short p t Memory ns h = short_long p (makes p t) ns h.1
fits_short p t (Declined j) ns h = empty_short ns (length (makes p t)) h.1
fits_short p t Absent ns h = empty_short ns (length (makes p t)) h.1
fits_short p t (TooLong n) ns h = empty_short ns (length (makes p t)) h.2
fits_short p t (Checksum d) ns h = empty_short ns (length (makes p t)) h.2
fits_short p t (Oversize j f n) ns h = empty_short ns (length (makes p t)) h.3

left_at : (p : Plan) (t : ℕ) (f : Bool) (x : Phase) (a : ℕ) (k : ℕ) → f ≡ false → (x ≡ Ended → ⊥) → k ≤ length (makes p t) → k ≤ sizes_of p t f x a
left_at p t true x a k e w l = absurd cc
left_at p t false Waits a k e w l = one_of (retries p - a) (length (makes p t)) k l
left_at p t false Runs a k e w l = one_of (retries p - a) (length (makes p t)) k l
left_at p t false Ended a k e w l = absurd (w refl)

again_sum : (r a m k : ℕ) → k ≤ m → a < r → ((r - (a + 1)) + 1) * m + k ≤ ((r - a) + 1) * m
again_sum r a m k l less =
    let n : (r - a) + 1 ≡ (r - (a + 1)) + 2 = omega arith in
    let i = ap (λ (j : ℕ). j * m) n in
    let h = one_less (r - (a + 1)) m k l in
    omega (arith, h, i)

again_at : (p : Plan) (t : ℕ) (f : Bool) (x : Phase) (a : ℕ) (k : ℕ) → f ≡ false → (x ≡ Ended → ⊥) → k ≤ length (makes p t) → a < retries p → sizes_of p t f Waits (a + 1) + k ≤ sizes_of p t f x a
again_at p t true x a k e w l m = absurd cc
again_at p t false Ended a k e w l m = absurd (w refl)
again_at p t false Waits a k e w l m = again_sum (retries p) a (length (makes p t)) k l m
again_at p t false Runs a k e w l m = again_sum (retries p) a (length (makes p t)) k l m

same_left : (f : Bool) (n m k : ℕ) (x : Phase) → k ≡ 0 → x ≡ Waits → cond f 0 (sizes_left Runs n m) + k ≤ cond f 0 (sizes_left x n m)
same_left true n m k x e w = omega (arith, e)
same_left false n m k Waits e w = omega (arith, e)
same_left false n m k Runs e w = absurd cc
same_left false n m k Ended e w = absurd cc

ended_left : (p : Plan) (t : ℕ) (f : Bool) (a k : ℕ) (y : ℕ) → k ≤ y → sizes_of p t f Ended a + k ≤ y
ended_left p t true a k y l = omega arith
ended_left p t false a k y l = omega arith

pub sizes_fall : (p : Plan) (s : State) (e : Event) → IsConsistent p s → Allowed p s e → sizes_room p (after p s e) + length (listed e) ≤ sizes_room p s
sizes_fall p s e good allowed = by_entry e allowed
  where
    unfailed : s.failing ≡ false → (t : ℕ) → s.failed t ≡ false
    unfailed e t = false_of (s.failed t) (λ h. let k = good.failed_fails t h in absurd cc)

    in_choice : (t : ℕ) → IsChoice p s t → s.phase t ≡ Waits
    in_choice t choice = is_waiting (s.phase t) (good.sound.safe.waiting t (choice_in p s t choice))

    grant : (t : ℕ) (new : State) → ((u : ℕ) → new.failed u ≡ s.failed u) → ((u : ℕ) → new.agains u ≡ s.agains u) → ((u : ℕ) → new.phase u ≡ put s.phase t Runs u) → t < count_tasks p → s.phase t ≡ Waits → sizes_room p new + 0 ≤ sizes_room p s
    grant t new a b c below w = moved p s new t 0 below (λ u off. a u) (λ u off. c u ∙ put_off s.phase t Runs u off) (λ u off. b u)
        (let is : sizes_of p t (new.failed t) (new.phase t) (new.agains t) ≡ sizes_of p t (s.failed t) Runs (s.agains t)
        = ap (λ (f : Bool). sizes_of p t f (new.phase t) (new.agains t)) (a t) ∙ ap (λ (x : Phase). sizes_of p t (s.failed t) x (new.agains t)) (c t ∙ put_at s.phase t Runs) ∙ ap (λ (n : ℕ). sizes_of p t (s.failed t) Runs n) (b t) in
        omega (arith, is, same_left (s.failed t) (retries p - s.agains t) (length (makes p t)) 0 (s.phase t) refl w))

    end : (t k : ℕ) (new : State) → ((u : ℕ) → new.failed u ≡ s.failed u) → ((u : ℕ) → new.agains u ≡ s.agains u) → ((u : ℕ) → new.phase u ≡ put s.phase t Ended u) → t < count_tasks p → s.failed t ≡ false → (s.phase t ≡ Ended → ⊥) → k ≤ length (makes p t) → sizes_room p new + k ≤ sizes_room p s
    end t k new a b c below none w l = moved p s new t k below (λ u off. a u) (λ u off. c u ∙ put_off s.phase t Ended u off) (λ u off. b u)
        (let is : sizes_of p t (new.failed t) (new.phase t) (new.agains t) ≡ sizes_of p t (new.failed t) Ended (new.agains t) = ap (λ (x : Phase). sizes_of p t (new.failed t) x (new.agains t)) (c t ∙ put_at s.phase t Ended) in
        omega (arith, is, ended_left p t (new.failed t) (new.agains t) k (sizes_of p t (s.failed t) (s.phase t) (s.agains t)) (left_at p t (s.failed t) (s.phase t) (s.agains t) k none w l)))

    again : (t k : ℕ) (new : State) → ((u : ℕ) → new.failed u ≡ s.failed u) → ((u : ℕ) → new.agains u ≡ put s.agains t (s.agains t + 1) u) → ((u : ℕ) → new.phase u ≡ put s.phase t Waits u) → t < count_tasks p → s.failed t ≡ false → (s.phase t ≡ Ended → ⊥) → k ≤ length (makes p t) → s.agains t < retries p → sizes_room p new + k ≤ sizes_room p s
    again t k new a b c below none w l m = moved p s new t k below (λ u off. a u) (λ u off. c u ∙ put_off s.phase t Waits u off) (λ u off. b u ∙ put_off s.agains t (s.agains t + 1) u off)
        (let is : sizes_of p t (new.failed t) (new.phase t) (new.agains t) ≡ sizes_of p t (s.failed t) Waits (s.agains t + 1)
        = ap (λ (f : Bool). sizes_of p t f (new.phase t) (new.agains t)) (a t) ∙ ap (λ (x : Phase). sizes_of p t (s.failed t) x (new.agains t)) (c t ∙ put_at s.phase t Waits) ∙ ap (λ (n : ℕ). sizes_of p t (s.failed t) Waits n) (b t ∙ put_at s.agains t (s.agains t + 1)) in
        omega (arith, is, again_at p t (s.failed t) (s.phase t) (s.agains t) k none w l m))

    fail : (t k : ℕ) (new : State) → ((u : ℕ) → new.failed u ≡ put s.failed t true u) → ((u : ℕ) → new.agains u ≡ s.agains u) → ((u : ℕ) → new.phase u ≡ s.phase u) → t < count_tasks p → s.failed t ≡ false → (s.phase t ≡ Ended → ⊥) → k ≤ length (makes p t) → sizes_room p new + k ≤ sizes_room p s
    fail t k new a b c below none w l = moved p s new t k below (λ u off. a u ∙ put_off s.failed t true u off) (λ u off. c u) (λ u off. b u)
        (let is : sizes_of p t (new.failed t) (new.phase t) (new.agains t) ≡ 0 = ap (λ (f : Bool). sizes_of p t f (new.phase t) (new.agains t)) (a t ∙ put_at s.failed t true) in
        omega (arith, is, left_at p t (s.failed t) (s.phase t) (s.agains t) k none w l))

    caught : (w t : ℕ) → MayFail p s w t → (t < count_tasks p) × (s.failed t ≡ false) × (s.phase t ≡ Ended → ⊥)
    caught w t (inl o) = ((good.sound.running_kind t o.runs).1, o.no_fail, λ e. let r = o.runs in absurd cc)
    caught w t (inr k) = (good.sound.safe.tasks t (choice_in p s t k.1), unfailed k.1.no_fail t, λ e. let r = in_choice t k.1 in absurd cc)

    by_entry : (d : Event) → Allowed p s d → sizes_room p (after p s d) + length (listed d) ≤ sizes_room p s
    by_entry (Grant w t) a = grant t (after p s (Grant w t)) (λ u. refl) (λ u. refl) (λ u. refl) (good.sound.safe.tasks t (choice_in p s t a.2)) (in_choice t a.2)
    by_entry (Regrant w t) a = let parts = fresh_among p s 4 s.rest t a.1.among in grant t (after p s (Regrant w t)) (λ u. refl) (λ u. refl) (λ u. refl) (good.sound.safe.tasks t parts.2) (is_waiting (s.phase t) (good.sound.safe.waiting t parts.2))
    by_entry (Arrive w t n) a = end t 0 (after p s (Arrive w t n)) (λ u. refl) (λ u. refl) (λ u. refl) (good.sound.running_kind t a.2.runs).1 a.2.no_fail (λ e. let r = a.2.runs in absurd cc) (omega arith)
    by_entry (End w t ns) a = end t (length ns) (after p s (End w t ns)) (λ u. refl) (λ u. refl) (λ u. refl) (good.sound.running_kind t a.2.runs).1 a.2.no_fail (λ e. let r = a.2.runs in absurd cc) (let l = declared_long p (makes p t) ns a.3 in omega (arith, l))
    by_entry (Clean w t) a = end t 0 (after p s (Clean w t)) (λ u. refl) (λ u. refl) (λ u. refl) (good.sound.safe.tasks t (choice_in p s t a.2)) (unfailed a.2.no_fail t) (λ e. let r = in_choice t a.2 in absurd cc) (omega arith)
    by_entry (Again w t c ns) a = let k = caught w t a.1 in again t (length ns) (after p s (Again w t c ns)) (λ u. refl) (λ u. refl) (λ u. refl) k.0 k.1 k.2 (fits_short p t c ns a.2) a.5
    by_entry (Fail w t c ns) a = let k = caught w t a.1 in fail t (length ns) (after p s (Fail w t c ns)) (λ u. refl) (λ u. refl) (λ u. refl) k.0 k.1 k.2 (fits_short p t c ns a.2)
