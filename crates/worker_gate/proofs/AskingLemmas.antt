-- For what gates were asked, from turn to turn.
use Rattle.std.proofs.Common.{◌≡◌, ◌⊎◌, ℕ, inl, inr, List, [], ◌∷◌, ◌++◌, refl, sym, ap, subst, ◌∙◌, append_assoc}
use Rattle.std.specs.Prelude.{IfNone, IfSome, Option, Some, None}
use Rattle.outside.specs.declared.counts.Counts.{Counts}
use Rattle.outside.specs.declared.store.Store.{Store}
use Rattle.plan_core.specs.declared.plan.Plan.{Plan}
use Rattle.run_record.specs.declared.entry.Cause.{Cause}
use Rattle.run_record.specs.declared.entry.Cause.TheVariants.{Absent, TooLong, Checksum, Oversize, Declined, ToolFailed, HostFailed, Memory}
use Rattle.run_record.specs.Events.{Event, Grant, Arrive, End, Clean, Fail, Again, Regrant}
use Rattle.lease_rules.specs.State.{State}
use Rattle.ruled_lock.specs.Chronicle.{GrowsAlike}
use Rattle.site_yard.specs.declared.leased.Leased.{Leased}
use Rattle.site_yard.specs.declared.leased.Leased.TheVariants as leased
use Rattle.site_yard.specs.code.Yard.{Adds, IsAgain, IsFail, IsFailure, IsLending, IsStop, Leases}
use Rattle.worker_gate.specs.code.Asking.{AreAskedBy, AsksOwn, IsAskedAt, IsAskedBy}
use Rattle.worker_gate.specs.code.Tending.{EndsTask, IsDone}

-- lists
pub no_more : (xs : List ℕ) → xs ++ [] ≡ xs
no_more [] = refl
no_more (x ∷ xs) = ap (λ l. x ∷ l) (no_more xs)

no_entries : (r : List Event) → r ≡ r ++ []
no_entries [] = refl
no_entries (e ∷ r) = ap (λ l. e ∷ l) (no_entries r)

-- entries and more of them
asked_both : (r s : List Event) (ts us : List ℕ) → AreAskedBy r ts → AreAskedBy s us → AreAskedBy (r ++ s) (ts ++ us)
asked_both [] s ts us a b = subst (AreAskedBy s) (sym (ap (λ l. l ++ us) a)) b
asked_both (e ∷ r) s ts us a b = (
  a.0,
  a.1 ++ us,
  a.2,
  asked_both r s a.1 us a.3 b,
  ap (λ l. l ++ us) a.4 ∙ append_assoc a.0 a.1 us,
)

asked_one : (e : Event) (ts : List ℕ) → IsAskedBy e ts → AreAskedBy (e ∷ []) ts
asked_one e ts h = (ts, [], h, refl, sym (no_more ts))

pub asks_then : (m0 m1 m2 : List Event) (xs ys zs : List ℕ) → AsksOwn m0 m1 xs ys → AsksOwn m1 m2 ys zs → AsksOwn m0 m2 xs zs
asks_then m0 m1 m2 xs ys zs a b = record {
  added = a.added ++ b.added;
  is = b.is ∙ ap (λ l. l ++ b.added) a.is ∙ append_assoc m0 a.added b.added;
  asked = record {
    asked = a.asked.asked ++ b.asked.asked;
    is = b.asked.is ∙ ap (λ l. l ++ b.asked.asked) a.asked.is ∙ append_assoc xs a.asked.asked b.asked.asked;
    are = asked_both a.added b.added a.asked.asked b.asked.asked a.asked.are b.asked.are;
  };
}

pub asks_nothing : (m0 m1 : List Event) (xs : List ℕ) → m1 ≡ m0 → AsksOwn m0 m1 xs xs
asks_nothing m0 m1 xs same = record {
  added = [];
  is = same ∙ no_entries m0;
  asked = record { asked = []; is = sym (no_more xs); are = refl };
}

-- what a turn adds, and what the gate was asked for it
abbrev pub AddsAsking : List Event → List Event → List ℕ → Type 0
AddsAsking r next ts = ((next ≡ r) × (ts ≡ [])) ⊎ ((e : Event) × (next ≡ r ++ e ∷ []) × IsAskedBy e ts)

asks_added : (r next mine after_ : List Event) (ts xs : List ℕ) → GrowsAlike r next mine after_ → AddsAsking r next ts → AsksOwn mine after_ xs (xs ++ ts)
asks_added r next mine after_ ts xs grow (inl h) = subst (AsksOwn mine after_ xs) (sym (ap (λ l. xs ++ l) h.1 ∙ no_more xs)) (asks_nothing mine after_ xs (grow.0 h.0))
asks_added r next mine after_ ts xs grow (inr h) = record {
  added = h.0 ∷ [];
  is = grow.1 h.0 h.1;
  asked = record { asked = ts; is = refl; are = asked_one h.0 ts h.2 };
}

pub asks_turn : (taken r next mine mid after_ : List Event) (ts xs : List ℕ) → taken ≡ r → mid ≡ mine → GrowsAlike taken next mid after_ → AddsAsking r next ts → AsksOwn mine after_ xs (xs ++ ts)
asks_turn taken r next mine mid after_ ts xs took middle grow adds =
    asks_added r next mine after_ ts xs (subst (λ (l : List Event). GrowsAlike l next mine after_) took (subst (λ (l : List Event). GrowsAlike taken next l after_) middle grow)) adds

pub asks_no_turn : (taken r next mine mid after_ : List Event) (xs : List ℕ) → taken ≡ r → mid ≡ mine → GrowsAlike taken next mid after_ → AddsAsking r next [] → AsksOwn mine after_ xs xs
asks_no_turn taken r next mine mid after_ xs took middle grow adds =
    subst (AsksOwn mine after_ xs) (no_more xs) (asks_turn taken r next mine mid after_ [] xs took middle grow adds)

-- causes
stop_unasked : (t : ℕ) (c : Cause) → IsStop c → IsAskedAt t c []
stop_unasked t Absent h = absurd h
stop_unasked t (TooLong n) h = absurd h
stop_unasked t (Checksum d) h = absurd h
stop_unasked t (Oversize j f n) h = absurd h
stop_unasked t (Declined j) h = absurd h
stop_unasked t (ToolFailed j) h = absurd h
stop_unasked t HostFailed h = inl refl
stop_unasked t Memory h = inl refl

lending_unasked : (t : ℕ) (c : Cause) → IsLending c → IsAskedAt t c []
lending_unasked t Absent h = inl refl
lending_unasked t (TooLong n) h = inl refl
lending_unasked t (Checksum d) h = absurd h
lending_unasked t (Oversize j f n) h = absurd h
lending_unasked t (Declined j) h = absurd h
lending_unasked t (ToolFailed j) h = absurd h
lending_unasked t HostFailed h = inl refl
lending_unasked t Memory h = inl refl

once : (u t : ℕ) → u ≡ t → t ∷ [] ≡ u ∷ []
once u t same = ap (λ (n : ℕ). n ∷ []) (sym same)

cause_asked : (u t : ℕ) (c : Cause) → u ≡ t → IsAskedAt u c (t ∷ [])
cause_asked u t Absent same = inr (once u t same)
cause_asked u t (TooLong n) same = inr (once u t same)
cause_asked u t (Checksum d) same = once u t same
cause_asked u t (Oversize j f n) same = once u t same
cause_asked u t (Declined j) same = once u t same
cause_asked u t (ToolFailed j) same = once u t same
cause_asked u t HostFailed same = inr (once u t same)
cause_asked u t Memory same = inr (once u t same)

-- entries
fail_unasked : (w t : ℕ) (e : Event) → IsFail w t e → IsAskedBy e []
fail_unasked w t (Grant v u) h = absurd h
fail_unasked w t (Regrant v u) h = absurd h
fail_unasked w t (Clean v u) h = absurd h
fail_unasked w t (Arrive v u n) h = absurd h
fail_unasked w t (End v u ns) h = absurd h
fail_unasked w t (Again v u c ns) h = absurd h
fail_unasked w t (Fail v u c ns) h = stop_unasked u c h.2

again_unasked : (w t : ℕ) (e : Event) → IsAgain w t e → IsAskedBy e []
again_unasked w t (Grant v u) h = absurd h
again_unasked w t (Regrant v u) h = absurd h
again_unasked w t (Clean v u) h = absurd h
again_unasked w t (Arrive v u n) h = absurd h
again_unasked w t (End v u ns) h = absurd h
again_unasked w t (Fail v u c ns) h = absurd h
again_unasked w t (Again v u c ns) h = stop_unasked u c h.2

failure_unasked : (w t : ℕ) (e : Event) → IsFailure w t e → IsAskedBy e []
failure_unasked w t (Grant v u) h = absurd h
failure_unasked w t (Regrant v u) h = absurd h
failure_unasked w t (Clean v u) h = absurd h
failure_unasked w t (Arrive v u n) h = absurd h
failure_unasked w t (End v u ns) h = absurd h
failure_unasked w t (Fail v u c ns) h = lending_unasked u c h.2
failure_unasked w t (Again v u c ns) h = lending_unasked u c h.2

done_asked : (w t : ℕ) (e : Event) → IsDone w t e → IsAskedBy e (t ∷ [])
done_asked w t (Grant v u) h = absurd h
done_asked w t (Regrant v u) h = absurd h
done_asked w t (Clean v u) h = absurd h
done_asked w t (Arrive v u n) h = once u t h.1
done_asked w t (End v u ns) h = once u t h.1
done_asked w t (Fail v u c ns) h = cause_asked u t c h.1
done_asked w t (Again v u c ns) h = cause_asked u t c h.1

-- the calls of a yard
pub lease_asks : (p : Plan) (s : State) (w : ℕ) (r next : List Event) (o : Option Store) (before now_ : Counts) (x : Leased) → Leases p s w r next o before now_ x → AddsAsking r next []
lease_asks p s w r next o before now_ (leased.Granted t) h = elim h.1 [
  | inl choice ↦ inr (Grant w t.0, choice.1, refl)
  | inr fresh ↦ inr (Regrant w t.0, fresh.1, refl)
]
lease_asks p s w r next o before now_ (leased.Swept t) h = inr (Clean w t.0, h.2, refl)
lease_asks p s w r next o before now_ (leased.Failed t) h = inr (h.2.entry, h.2.is, fail_unasked w t.0 h.2.entry h.2.kind)
lease_asks p s w r next o before now_ (leased.Again t) h = inr (h.2.entry, h.2.is, again_unasked w t.0 h.2.entry h.2.kind)
lease_asks p s w r next o before now_ leased.Done h = inl (h.1, refl)
lease_asks p s w r next o before now_ leased.Stopped h = inl (h.1, refl)
lease_asks p s w r next o before now_ leased.NotYet h = inl (h.4, refl)

pub lend_asks : {L : Type 0} (Takes : Event → ℕ → Type 0) (w t : ℕ) (r next : List Event) (o : Option Store) (before now_ : Counts) (x : Option L) → IfSome x (λ l. next ≡ r) → IfNone x (Adds r next (IsFailure w t) Takes o before now_) → AddsAsking r next []
lend_asks Takes w t r next o before now_ (Some l) same adds = inl (same, refl)
lend_asks Takes w t r next o before now_ None same adds = inr (adds.entry, adds.is, failure_unasked w t adds.entry adds.kind)

pub end_asks : (w t n : ℕ) (r next : List Event) → EndsTask w t n r next → AddsAsking r next (t ∷ [])
end_asks w t n r next ends = inr (ends.entry, ends.is, done_asked w t ends.entry ends.done)
