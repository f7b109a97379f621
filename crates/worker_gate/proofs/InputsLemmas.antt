-- What a step adds, as the bytes that were read have it.
use Rattle.std.proofs.Common.{◌≡◌, ℕ, Bool, true, false, cond, inl, inr, List, [], ◌∷◌, ◌++◌, refl, sym, ap, subst, ◌∙◌, append_assoc}
use Rattle.std.specs.Prelude.{IfNone, IfSome, Option, Some, None, Result, Ok, Err}
use Rattle.std.proofs.lemmas.List.{append_cancel_left}
use Rattle.values.specs.Apply.{Apply}
use Rattle.outside.specs.declared.counts.Counts.{Counts}
use Rattle.values.specs.declared.numbers.TaskId.{TaskId}
use Rattle.outside.specs.declared.store.Store.{Store}
use Rattle.plan_core.specs.declared.plan.Plan.{Plan}
use Rattle.plan_core.specs.Words.{is_run_kind, is_transfer, is_transfer_kind, kind}
use Rattle.plan_core.specs.declared.plan.TaskKind.{TaskKind}
use Rattle.plan_core.specs.declared.plan.TaskKind.TheVariants.{Transfer, Run, Clean as CleanTask}
use Rattle.run_record.specs.declared.entry.Cause.{Cause}
use Rattle.run_record.specs.declared.entry.Cause.TheVariants as why
use Rattle.run_record.specs.Events.{Event, Grant, Arrive, End, Clean, Fail, Again, Regrant}
use Rattle.lease_book.specs.Book.{failure, is_tried_again}
use Rattle.lease_rules.specs.Owning.{worker}
use Rattle.lease_rules.specs.State.{State}
use Rattle.ruled_lock.specs.Chronicle.{AddsAtMostOne, GrowsAlike}
use Rattle.site_yard.specs.code.Yard.{Adds, IsAgain, IsFail, IsFailure, IsLending, IsSettled, IsStop, Leases}
use Rattle.site_yard.specs.declared.chronicle.Charter.{Charter}
use Rattle.site_yard.specs.declared.leased.Leased.{Leased}
use Rattle.site_yard.specs.declared.leased.Leased.TheVariants as leased
use Rattle.task_work.specs.declared.filling.Filled.{Filled}
use Rattle.task_work.specs.declared.filling.Filled.TheVariants.{Moved, Made}
use Rattle.worker_gate.specs.code.Inputs.{AddsOfInputs, AreBytesMoved, AreLengths, AreOfInputs, IsCauseOfInputs, IsFilledOf, IsOfInputs}
use Rattle.worker_gate.specs.code.Tending.{sizes_in}
use Rattle.worker_gate.specs.code.Turning.{plan_of}

-- causes that are the host's, or want of memory
stop_is : (apply : Apply) (p : Plan) (t : ℕ) (c : Cause) → IsStop c → IsCauseOfInputs apply p t c
stop_is apply p t why.HostFailed h = tt
stop_is apply p t why.Memory h = tt
stop_is apply p t c h = absurd h

lending_is : (apply : Apply) (p : Plan) (t : ℕ) (c : Cause) → IsLending c → IsCauseOfInputs apply p t c
lending_is apply p t why.Absent h = tt
lending_is apply p t (why.TooLong n) h = tt
lending_is apply p t why.HostFailed h = tt
lending_is apply p t why.Memory h = tt
lending_is apply p t c h = absurd h

failure_is : (apply : Apply) (p : Plan) (w t : ℕ) (e : Event) → IsFailure w t e → IsOfInputs apply p e
failure_is apply p w t (Grant v u) h = absurd h
failure_is apply p w t (Regrant v u) h = absurd h
failure_is apply p w t (Clean v u) h = absurd h
failure_is apply p w t (End v u ns) h = absurd h
failure_is apply p w t (Arrive v u n) h = absurd h
failure_is apply p w t (Fail v u c ns) h = lending_is apply p u c h.2
failure_is apply p w t (Again v u c ns) h = lending_is apply p u c h.2

fail_is : (apply : Apply) (p : Plan) (w t : ℕ) (e : Event) → IsFail w t e → IsOfInputs apply p e
fail_is apply p w t (Fail v u c ns) h = stop_is apply p u c h.2
fail_is apply p w t e h = absurd h

again_is : (apply : Apply) (p : Plan) (w t : ℕ) (e : Event) → IsAgain w t e → IsOfInputs apply p e
again_is apply p w t (Again v u c ns) h = stop_is apply p u c h.2
again_is apply p w t e h = absurd h

-- of a loan that is settled
true_false : (b : Bool) → b ≡ true → b ≡ false → ⊥
true_false b h k = absurd cc

end_is : (apply : Apply) (p : Plan) (t u : ℕ) (f : Filled) (ns : List ℕ) → IsFilledOf apply p t (Ok f) → u ≡ t → is_transfer p t ≡ false → ns ≡ sizes_in f → AreLengths apply p u ns
end_is apply p t u (Moved n digest) ns of at off same = absurd (true_false (is_transfer p t) of.0 off)
end_is apply p t u (Made sizes) ns of at off same = subst (λ z. AreLengths apply p z ns) (sym at) (subst (AreLengths apply p t) (sym same) of.1)

one_number : (n k : ℕ) → n ∷ [] ≡ k ∷ [] → n ≡ k
one_number n k e = cc

not_both : (k : Option TaskKind) → is_transfer_kind k ≡ true → is_run_kind k ≡ true → ⊥
not_both None moves run = absurd cc
not_both (Some (Transfer f from to)) moves run = absurd cc
not_both (Some (Run s js)) moves run = absurd cc
not_both (Some (CleanTask q)) moves run = absurd cc

arrive_is : (apply : Apply) (p : Plan) (t u : ℕ) (f : Filled) (n : ℕ) → IsFilledOf apply p t (Ok f) → u ≡ t → is_transfer p t ≡ true → sizes_in f ≡ n ∷ [] → AreBytesMoved p (kind p u) n
arrive_is apply p t u (Moved k digest) n of at moves same = subst (λ z. AreBytesMoved p (kind p z) n) (sym at) (subst (AreBytesMoved p (kind p t)) (one_number k n same) of.1)
arrive_is apply p t u (Made sizes) n of at moves same = absurd (not_both (kind p t) moves of.0)

settled_is : (apply : Apply) (p : Plan) (w t : ℕ) (f : Filled) (e : Event) → IsFilledOf apply p t (Ok f) → IsSettled p w t (sizes_in f) e → IsOfInputs apply p e
settled_is apply p w t f (Arrive v u n) of h = arrive_is apply p t u f n of h.1 h.2 h.3
settled_is apply p w t f (End v u ns) of h = end_is apply p t u f ns of h.1 h.2 h.3
settled_is apply p w t f (Fail v u c ns) of h = stop_is apply p u c h.2
settled_is apply p w t f (Again v u c ns) of h = stop_is apply p u c h.2
settled_is apply p w t f (Grant v u) of h = absurd h
settled_is apply p w t f (Regrant v u) of h = absurd h
settled_is apply p w t f (Clean v u) of h = absurd h

failed_is : (apply : Apply) (p : Plan) (b : Bool) (w t : ℕ) (c : Cause) → IsCauseOfInputs apply p t c → IsOfInputs apply p (cond b (Again w t c []) (Fail w t c []))
failed_is apply p true w t c h = h
failed_is apply p false w t c h = h

-- one entry more, and more of them
one_more : (apply : Apply) (p : Plan) (r new : List Event) (e : Event) → new ≡ r ++ e ∷ [] → IsOfInputs apply p e → AddsOfInputs apply p r new
one_more apply p r new e is h = record { added = e ∷ []; is = is; are = (h, tt) }

all_are : (apply : Apply) (p : Plan) (xs ys : List Event) → AreOfInputs apply p xs → AreOfInputs apply p ys → AreOfInputs apply p (xs ++ ys)
all_are apply p [] ys a b = b
all_are apply p (e ∷ xs) ys a b = (a.0, all_are apply p xs ys a.1 b)

no_more : (r : List Event) → r ≡ r ++ []
no_more [] = refl
no_more (e ∷ r) = ap (λ l. e ∷ l) (no_more r)

pub adds_none : (apply : Apply) (p : Plan) (r : List Event) → AddsOfInputs apply p r r
adds_none apply p r = record { added = []; is = no_more r; are = tt }

pub adds_both : (apply : Apply) (p : Plan) (r mid new : List Event) → AddsOfInputs apply p r mid → AddsOfInputs apply p mid new → AddsOfInputs apply p r new
adds_both apply p r mid new u v = record {
  added = u.added ++ v.added;
  is = v.is ∙ ap (λ l. l ++ v.added) u.is ∙ append_assoc r u.added v.added;
  are = all_are apply p u.added v.added u.are v.are;
}

-- the calls of a yard
pub settles_so : {Takes : Event → ℕ → Type 0} (apply : Apply) (p : Plan) (r new : List Event) (w t : ℕ) (f : Filled) (filled : Result Filled Cause) (sizes : List ℕ) (o : Option Store) (before now_ : Counts) → filled ≡ Ok f → sizes ≡ sizes_in f → IsFilledOf apply p t filled → Adds r new (IsSettled p w t sizes) Takes o before now_ → AddsOfInputs apply p r new
settles_so apply p r new w t f filled sizes o before now_ is same of adds =
    one_more apply p r new adds.entry adds.is (settled_is apply p w t f adds.entry (subst (IsFilledOf apply p t) is of) (subst (λ l. IsSettled p w t l adds.entry) same adds.kind))

pub abandons_so : (apply : Apply) (p : Plan) (s : State) (r new : List Event) (w t : ℕ) (c : Cause) (filled : Result Filled Cause) → filled ≡ Err c → IsFilledOf apply p t filled → new ≡ r ++ failure p s w t c [] ∷ [] → AddsOfInputs apply p r new
abandons_so apply p s r new w t c filled is of added =
    one_more apply p r new (failure p s w t c []) added (failed_is apply p (is_tried_again p s t c) w t c (subst (IsFilledOf apply p t) is of))

-- what a lease adds, and what comes after a grant
pub grants_so : (apply : Apply) (p q : Plan) (s : State) (w : ℕ) (t : TaskId) (r mid new : List Event) (o : Option Store) (before now_ : Counts) → q ≡ p → Leases p s w r mid o before now_ (leased.Granted t) → AddsOfInputs apply q mid new → AddsOfInputs apply p r new
grants_so apply p q s w t r mid new o before now_ same leases does =
    adds_both apply p r mid new (elim leases.1 [
      | inl choice ↦ one_more apply p r mid (Grant w t.0) choice.1 tt
      | inr fresh ↦ one_more apply p r mid (Regrant w t.0) fresh.1 tt
    ]) (subst (λ z. AddsOfInputs apply z mid new) same does)

pub sweeps_so : (apply : Apply) (p : Plan) (s : State) (w : ℕ) (t : TaskId) (r new : List Event) (o : Option Store) (before now_ : Counts) → Leases p s w r new o before now_ (leased.Swept t) → AddsOfInputs apply p r new
sweeps_so apply p s w t r new o before now_ leases = one_more apply p r new (Clean w t.0) leases.2 tt

pub fails_so : (apply : Apply) (p : Plan) (s : State) (w : ℕ) (t : TaskId) (r new : List Event) (o : Option Store) (before now_ : Counts) → Leases p s w r new o before now_ (leased.Failed t) → AddsOfInputs apply p r new
fails_so apply p s w t r new o before now_ leases = one_more apply p r new leases.2.entry leases.2.is (fail_is apply p w t.0 leases.2.entry leases.2.kind)

pub tries_again_so : (apply : Apply) (p : Plan) (s : State) (w : ℕ) (t : TaskId) (r new : List Event) (o : Option Store) (before now_ : Counts) → Leases p s w r new o before now_ (leased.Again t) → AddsOfInputs apply p r new
tries_again_so apply p s w t r new o before now_ leases = one_more apply p r new leases.2.entry leases.2.is (again_is apply p w t.0 leases.2.entry leases.2.kind)

pub adds_no_entry : (apply : Apply) (p : Plan) (r new : List Event) → new ≡ r → AddsOfInputs apply p r new
adds_no_entry apply p r new is = subst (AddsOfInputs apply p r) (sym is) (adds_none apply p r)

-- the calls of a yard in a turn
pub leases_so : (apply : Apply) (p : Plan) (s : State) (w : ℕ) (r new : List Event) (o : Option Store) (before now_ : Counts) (x : Leased) → Leases p s w r new o before now_ x → AddsOfInputs apply p r new
leases_so apply p s w r new o before now_ (leased.Granted t) h = elim h.1 [
  | inl choice ↦ one_more apply p r new (Grant w t.0) choice.1 tt
  | inr fresh ↦ one_more apply p r new (Regrant w t.0) fresh.1 tt
]
leases_so apply p s w r new o before now_ (leased.Swept t) h = sweeps_so apply p s w t r new o before now_ h
leases_so apply p s w r new o before now_ (leased.Failed t) h = fails_so apply p s w t r new o before now_ h
leases_so apply p s w r new o before now_ (leased.Again t) h = tries_again_so apply p s w t r new o before now_ h
leases_so apply p s w r new o before now_ leased.Done h = adds_no_entry apply p r new h.1
leases_so apply p s w r new o before now_ leased.Stopped h = adds_no_entry apply p r new h.1
leases_so apply p s w r new o before now_ leased.NotYet h = adds_no_entry apply p r new h.4

pub fails_to_lend_so : {Takes : Event → ℕ → Type 0} (apply : Apply) (p : Plan) (r new : List Event) (w t : ℕ) (o : Option Store) (before now_ : Counts) → Adds r new (IsFailure w t) Takes o before now_ → AddsOfInputs apply p r new
fails_to_lend_so apply p r new w t o before now_ adds = one_more apply p r new adds.entry adds.is (failure_is apply p w t adds.entry adds.kind)

pub lends_so : {L : Type 0} (Takes : Event → ℕ → Type 0) (apply : Apply) (p : Plan) (w t : ℕ) (r new : List Event) (o : Option Store) (before now_ : Counts) (x : Option L) → IfSome x (λ l. new ≡ r) → IfNone x (Adds r new (IsFailure w t) Takes o before now_) → AddsOfInputs apply p r new
lends_so Takes apply p w t r new o before now_ (Some l) same adds = adds_no_entry apply p r new same
lends_so Takes apply p w t r new o before now_ None same adds = fails_to_lend_so apply p r new w t o before now_ adds

-- what a worker's own entries gain in it
only_one : (apply : Apply) (p : Plan) (xs : List Event) (e : Event) → xs ≡ e ∷ [] → AreOfInputs apply p xs → IsOfInputs apply p e
only_one apply p xs e is are = (subst (AreOfInputs apply p) is are).0

own_adds : (apply : Apply) (p : Plan) (w : ℕ) (r next mine after_ : List Event) → AddsAtMostOne worker w r next → GrowsAlike r next mine after_ → AddsOfInputs apply p r next → AddsOfInputs apply p mine after_
own_adds apply p w r next mine after_ (inl same) grow adds = adds_no_entry apply p mine after_ (grow.0 same)
own_adds apply p w r next mine after_ (inr more) grow adds =
    one_more apply p mine after_ more.0 (grow.1 more.0 more.2) (only_one apply p adds.added more.0 (append_cancel_left r adds.added (more.0 ∷ []) (sym adds.is ∙ more.2)) adds.are)

pub inputs_turn : (apply : Apply) (c : Charter) (g : Option Charter) (v : ℕ) (taken r next mine mid after_ : List Event) → g ≡ Some c → taken ≡ r → mid ≡ mine → AddsAtMostOne worker v r next → GrowsAlike taken next mid after_ → AddsOfInputs apply c.ordered.plan r next → IfSome g (λ d. AddsOfInputs apply (plan_of d) mine after_)
inputs_turn apply c g v taken r next mine mid after_ is took middle adds grow so =
    subst (λ (k : Option Charter). IfSome k (λ d. AddsOfInputs apply (plan_of d) mine after_)) (sym is)
    (subst (λ (l : List Event). AddsOfInputs apply c.ordered.plan l after_) middle (own_adds apply c.ordered.plan v r next mid after_ adds (subst (λ (l : List Event). GrowsAlike l next mid after_) took grow) so))

-- and then more
pub own_both : (apply : Apply) (g h : Option Charter) (m0 m1 m2 : List Event) → h ≡ g → IfSome g (λ d. AddsOfInputs apply (plan_of d) m0 m1) → IfSome h (λ d. AddsOfInputs apply (plan_of d) m1 m2) → IfSome g (λ d. AddsOfInputs apply (plan_of d) m0 m2)
own_both apply g h m0 m1 m2 same a b = by g a (subst (λ (k : Option Charter). IfSome k (λ d. AddsOfInputs apply (plan_of d) m1 m2)) same b)
  where
    by : (k : Option Charter) → IfSome k (λ d. AddsOfInputs apply (plan_of d) m0 m1) → IfSome k (λ d. AddsOfInputs apply (plan_of d) m1 m2) → IfSome k (λ d. AddsOfInputs apply (plan_of d) m0 m2)
    by None u v = tt
    by (Some d) u v = adds_both apply (plan_of d) m0 m1 m2 u v

pub own_none : (apply : Apply) (g : Option Charter) (m0 m1 : List Event) → m1 ≡ m0 → IfSome g (λ d. AddsOfInputs apply (plan_of d) m0 m1)
own_none apply None m0 m1 same = tt
own_none apply (Some d) m0 m1 same = adds_no_entry apply (plan_of d) m0 m1 same
