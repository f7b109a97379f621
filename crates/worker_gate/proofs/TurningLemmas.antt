-- What a worker's own entries say of what is open for it, from turn to turn.
use Rattle.std.proofs.Common.{◌≡◌, ℕ, zero, suc, ◌≤◌, ◌||◌, ◌&&◌, Bool, true, false, cond, eqb, inl, inr, List, [], ◌∷◌, ◌++◌, length, take, refl, sym, ap, subst, ◌∙◌, arith}
use Rattle.std.specs.Prelude.{Decides, IfNone, IfOk, IfSome, Option, Some, None, Result, Ok, Err, is_some, not}
use Rattle.std.specs.FinMap as files
use Rattle.std.proofs.Math.Logic.{∥∥₁_elim}
use mathlib.Core.Bool.{Bool-set}
use mathlib.Core.List.{IsPrefix}
use Rattle.values.specs.Apply.{Apply}
use Rattle.outside.specs.code.Parts.{DraftState, ReadState}
use Rattle.outside.specs.declared.counts.Counts.{Counts}
use Rattle.values.specs.declared.memory.Memory.{Memory}
use Rattle.values.specs.declared.numbers.TaskId.{TaskId}
use Rattle.outside.specs.declared.store.Store.{Store}
use Rattle.plan_core.specs.declared.plan.Plan.{Plan}
use Rattle.plan_core.specs.code.Proper.{IsProper}
use Rattle.plan_core.specs.Words.{kind, task_numbers}
use Rattle.run_record.specs.declared.entry.Cause.{Cause}
use Rattle.run_record.specs.Events.{Event, Grant, Arrive, End, Clean, Fail, Again, Regrant}
use Rattle.storage_simulation.specs.declared.ordered.Ordered.{Ordered}
use Rattle.lease_book.specs.declared.book.Book.{Book}
use Rattle.lease_book.specs.Book.{state_at}
use Rattle.lease_rules.specs.code.Law.{FitsFromStart}
use Rattle.lease_rules.specs.Legal.{IsOpen, Legal, LegalFrom}
use Rattle.lease_rules.specs.code.Owning.{entries_by, is_open, is_open_after, open_after}
use Rattle.lease_rules.specs.Owning.{worker}
use Rattle.lease_rules.specs.State.{State, after, now, opened}
use Rattle.ruled_lock.specs.Chronicle.{AddsAtMostOne, GrowsAlike}
use Rattle.site_yard.specs.declared.chronicle.Charter.{Charter}
use Rattle.site_yard.specs.declared.leased.Leased.{Leased}
use Rattle.site_yard.specs.declared.leased.Leased.TheVariants as leased
use Rattle.site_yard.specs.Changes.{carries}
use Rattle.site_yard.specs.code.Loan.{Aim, AreCarried, AreDrafts, IsDraftOf, IsLent, targets}
use Rattle.site_yard.specs.code.Truthful.{IsCause}
use Rattle.site_yard.specs.code.Yard.{Adds, IsAgain, IsFail, IsFailure, Leases}
use Rattle.site_yard.specs.code.Failures.{tool_fault_in, tool_faults_of}
use Rattle.worker_gate.specs.code.Alone.{IsOver}
use Rattle.task_work.specs.declared.filling.Filled.{Filled}
use Rattle.worker_gate.specs.code.Inputs.{IsFilledOf}
use Rattle.worker_gate.specs.code.Tending.{CanFinish, Finishes, HasLoan, IsDone, IsLast, digest_in}
use Rattle.worker_gate.specs.code.Turning.{IsHeldFor, IsOverFor, IsPlanOf, LeasesOwn, NoneOpenBy, NoneOpenFor, plan_of, state_of, told_of}
use Rattle.worker_gate.proofs.StateLemmas.{same_number}
use Rattle.worker_gate.proofs.LoanLemmas.{held_by, lent_held}
use Rattle.worker_gate.proofs.WorkLemmas.{failure_done, if_zero, stop_zero}

-- lists
open_more : (t : ℕ) (b : Bool) (r : List Event) (e : Event) → is_open_after t b (r ++ e ∷ []) ≡ open_after t (is_open_after t b r) e
open_more t b [] e = refl
open_more t b (x ∷ r) e = open_more t (open_after t b x) r e

after_more : (t : ℕ) (mine next : List Event) (e : Event) → next ≡ mine ++ e ∷ [] → is_open_after t false next ≡ open_after t (is_open_after t false mine) e
after_more t mine next e is = ap (is_open_after t false) is ∙ open_more t false mine e

-- no other task than t is open by the worker's own entries
abbrev pub OnlyOpenBy : List Event → ℕ → Type 0
OnlyOpenBy mine t = (u : ℕ) → eqb t u ≡ false → is_open_after u false mine ≡ false

-- a grant of the task, by the worker
abbrev pub IsGrant : ℕ → ℕ → Event → Type 0
IsGrant w t (Grant v u) = (v ≡ w) × (u ≡ t)
IsGrant w t (Regrant v u) = (v ≡ w) × (u ≡ t)
IsGrant w t _ = ⊥

grant_after : (w t u : ℕ) (b : Bool) (e : Event) → IsGrant w t e → open_after u b e ≡ (eqb t u || b)
grant_after w t u b (Grant v x) h = ap (λ (n : ℕ). eqb n u || b) h.1
grant_after w t u b (Regrant v x) h = ap (λ (n : ℕ). eqb n u || b) h.1
grant_after w t u b (Arrive v x n) h = absurd h
grant_after w t u b (End v x ns) h = absurd h
grant_after w t u b (Clean v x) h = absurd h
grant_after w t u b (Fail v x c ns) h = absurd h
grant_after w t u b (Again v x c ns) h = absurd h

last_after : (w t u : ℕ) (b : Bool) (e : Event) → IsLast w t e → open_after u b e ≡ (not (eqb t u) && b)
last_after w t u b (Grant v x) h = absurd h
last_after w t u b (Regrant v x) h = absurd h
last_after w t u b (Arrive v x n) h = ap (λ (n : ℕ). not (eqb n u) && b) h.1
last_after w t u b (End v x ns) h = ap (λ (n : ℕ). not (eqb n u) && b) h.1
last_after w t u b (Clean v x) h = ap (λ (n : ℕ). not (eqb n u) && b) h.1
last_after w t u b (Fail v x c ns) h = ap (λ (n : ℕ). not (eqb n u) && b) h.1
last_after w t u b (Again v x c ns) h = ap (λ (n : ℕ). not (eqb n u) && b) h.1

pub last_worker : (w t : ℕ) (e : Event) → IsLast w t e → worker e ≡ w
last_worker w t (Grant v x) h = absurd h
last_worker w t (Regrant v x) h = absurd h
last_worker w t (Arrive v x n) h = h.0
last_worker w t (End v x ns) h = h.0
last_worker w t (Clean v x) h = h.0
last_worker w t (Fail v x c ns) h = h.0
last_worker w t (Again v x c ns) h = h.0

pub done_last : (w t : ℕ) (e : Event) → IsDone w t e → IsLast w t e
done_last w t (Grant v x) h = absurd h
done_last w t (Regrant v x) h = absurd h
done_last w t (Arrive v x n) h = h
done_last w t (End v x ns) h = h
done_last w t (Clean v x) h = absurd h
done_last w t (Fail v x c ns) h = h
done_last w t (Again v x c ns) h = h

-- a grant opens its task alone
pub granted_is_open_by : (w t : ℕ) (mine next : List Event) (e : Event) → IsGrant w t e → next ≡ mine ++ e ∷ [] → is_open_after t false next ≡ true
granted_is_open_by w t mine next e grant is =
    after_more t mine next e is ∙ grant_after w t t (is_open_after t false mine) e grant ∙ ap (λ (b : Bool). b || is_open_after t false mine) (same_number t)

pub granted_only_by : (w t : ℕ) (mine next : List Event) (e : Event) → NoneOpenBy mine → IsGrant w t e → next ≡ mine ++ e ∷ [] → OnlyOpenBy next t
granted_only_by w t mine next e none grant is u off =
    after_more u mine next e is ∙ grant_after w t u (is_open_after u false mine) e grant ∙ ap (λ (b : Bool). b || is_open_after u false mine) off ∙ none u

-- and an entry by which the worker is done with it leaves none open
pub finished_none : (w t : ℕ) (mine next : List Event) (e : Event) → OnlyOpenBy mine t → IsLast w t e → next ≡ mine ++ e ∷ [] → NoneOpenBy next
finished_none w t mine next e only last is u =
    after_more u mine next e is ∙ last_after w t u (is_open_after u false mine) e last ∙ by_task (eqb t u) refl
  where
    by_task : (b : Bool) → eqb t u ≡ b → (not b && is_open_after u false mine) ≡ false
    by_task true e = refl
    by_task false e = only u e

pub none_only_by : (mine : List Event) (t : ℕ) → NoneOpenBy mine → OnlyOpenBy mine t
none_only_by mine t none u off = none u

-- the yard at hand says what the worker's own entries say
abbrev pub OwnLaw : Type 0
OwnLaw = (p : Plan) (order : List ℕ) (r : List Event) (w t : ℕ) → IsProper p → FitsFromStart p order → Legal p order r → is_open (now p order r) w t ≡ is_open_after t false (entries_by w r)

abbrev pub OpenLaw : Type 0
OpenLaw = (s : State) (w t : ℕ) → Decides (is_open s w t) (IsOpen s w t)

own_at : (law : OwnLaw) (b : Book) (w t : ℕ) (mine : List Event) → entries_by w b.history.events ≡ mine → is_open (state_at b) w t ≡ is_open_after t false mine
own_at law b w t mine same =
    ∥∥₁_elim b.kept.legal (Bool-set _ _) (λ legal. law b.plan (task_numbers b.order.items) b.history.events w t b.proper b.kept.fits legal) ∙ ap (is_open_after t false) same

pub open_at : (law : OwnLaw) (tells : OpenLaw) (b : Book) (w t : ℕ) (mine : List Event) → entries_by w b.history.events ≡ mine → is_open_after t false mine ≡ true → IsOpen (state_at b) w t
open_at law tells b w t mine same h = (tells (state_at b) w t).0 (own_at law b w t mine same ∙ h)

-- the state that a charter's record has is that of the book
state_of_book : (b : Book) (g : Charter) (r : List Event) → b.plan ≡ g.ordered.plan → b.order.items ≡ g.ordered.tasks.items → r ≡ b.history.events → state_of g r ≡ state_at b
state_of_book b g r p o e =
    ap (λ (q : Plan). now q (task_numbers g.ordered.tasks.items) r) (sym p)
    ∙ ap (λ (xs : List TaskId). now b.plan (task_numbers xs) r) (sym o)
    ∙ ap (now b.plan (task_numbers b.order.items)) e

true_no : (b : Bool) → b ≡ true → b ≡ false → ⊥
true_no true h k = absurd cc
true_no false h k = absurd cc

pub over_for : (law : OwnLaw) (tells : OpenLaw) (b : Book) (g : Charter) (w : ℕ) (mine r : List Event) → b.plan ≡ g.ordered.plan → b.order.items ≡ g.ordered.tasks.items → r ≡ b.history.events → entries_by w b.history.events ≡ mine → NoneOpenBy mine → IsOver g.ordered.plan (state_at b) → IsOverFor g w r
over_for law tells b g w mine r p o e same none over = record {
  over = subst (IsOver g.ordered.plan) (sym (state_of_book b g r p o e)) over;
  none_open = λ t is. true_no (is_open (state_at b) w t) ((tells (state_at b) w t).1 (subst (λ (s : State). IsOpen s w t) (state_of_book b g r p o e) is)) (own_at law b w t mine same ∙ none t);
}

-- a beginning of a Legal record is Legal
legal_front : (p : Plan) (s : State) (r xs : List Event) → LegalFrom p s (r ++ xs) → LegalFrom p s r
legal_front p s [] xs l = tt
legal_front p s (e ∷ r) xs l = (l.0, legal_front p (after p s e) r xs l.1)

not_so : (b : Bool) → (b ≡ true → ⊥) → b ≡ false
not_so true h = absurd (h refl)
not_so false h = refl

-- where no task is open for a worker after what it has seen, none is by its own entries
pub none_by_seen : (law : OwnLaw) (tells : OpenLaw) (b : Book) (g : Charter) (w : ℕ) (seen mine : List Event) → b.plan ≡ g.ordered.plan → b.order.items ≡ g.ordered.tasks.items → IsPrefix seen b.history.events → entries_by w seen ≡ mine → NoneOpenFor g w seen → NoneOpenBy mine
none_by_seen law tells b g w seen mine p o front same none t =
    not_so (is_open_after t false mine) (λ h. none t ((tells (state_of g seen) w t).0 (here ∙ h)))
  where
    here : is_open (state_of g seen) w t ≡ is_open_after t false mine
    here =
        ap (λ (q : Plan). is_open (now q (task_numbers g.ordered.tasks.items) seen) w t) (sym p)
        ∙ ap (λ (xs : List TaskId). is_open (now b.plan (task_numbers xs) seen) w t) (sym o)
        ∙ ∥∥₁_elim b.kept.legal (Bool-set _ _) (λ legal. law b.plan (task_numbers b.order.items) seen w t b.proper b.kept.fits (legal_front b.plan (opened (task_numbers b.order.items)) seen front.0 (subst (Legal b.plan (task_numbers b.order.items)) (sym front.1) legal)))
        ∙ ap (is_open_after t false) same

-- charters
pub charter_kept : (g : Option Charter) (o o2 : Ordered) (r r2 : List Event) (m m2 : Store) (t t2 : Bool) (f f2 k k2 : ℕ) → g ≡ Some (record { ordered = o; opened = r; marked = m; tells = t; faults = f; misses = k }) → o2 ≡ o → r2 ≡ r → m2 ≡ m → t2 ≡ t → f2 ≡ f → k2 ≡ k → g ≡ Some (record { ordered = o2; opened = r2; marked = m2; tells = t2; faults = f2; misses = k2 })
charter_kept g o o2 r r2 m m2 t t2 f f2 k k2 is eo er em et ef ek = is ∙ (λ i. Some (record { ordered = sym eo i; opened = sym er i; marked = sym em i; tells = sym et i; faults = sym ef i; misses = sym ek i }))

-- the entries of the opening stay
take_more : (h x : List Event) (n : ℕ) → n ≤ length h → take n (h ++ x) ≡ take n h
take_more h x zero l = refl
take_more [] x (suc n) l = absurd (omega (arith, l))
take_more (e ∷ h) x (suc n) l = ap (λ z. e ∷ z) (take_more h x n (omega (arith, l)))

pub opened_kept : (w n k : ℕ) (r next : List Event) → n ≤ length r → k ≡ n → AddsAtMostOne worker w r next → take k next ≡ take n r
opened_kept w n k r next begun same (inl is) = ap (λ i. take i next) same ∙ ap (take n) is
opened_kept w n k r next begun same (inr more) = ap (λ i. take i next) same ∙ ap (take n) more.2 ∙ take_more r (more.0 ∷ []) n begun

-- what a turn adds
pub finishes_adds : (w t n : ℕ) (r next : List Event) → Finishes w t n r next → AddsAtMostOne worker w r next
finishes_adds w t n r next h = inr (h.entry, last_worker w t h.entry h.last, h.is)

pub finishes_grow : (w t n : ℕ) (r next mine after_ : List Event) → GrowsAlike r next mine after_ → Finishes w t n r next → Finishes w t n mine after_
finishes_grow w t n r next mine after_ grow h = record { entry = h.entry; is = grow.1 h.entry h.is; last = h.last; failures = h.failures }

fail_last : (w t : ℕ) (e : Event) → IsFail w t e → IsLast w t e × (tool_faults_of w e ≡ 0)
fail_last w t (Grant v u) h = absurd h
fail_last w t (Regrant v u) h = absurd h
fail_last w t (Clean v u) h = absurd h
fail_last w t (Arrive v u n) h = absurd h
fail_last w t (End v u ns) h = absurd h
fail_last w t (Again v u c ns) h = absurd h
fail_last w t (Fail v u c ns) h = ((h.0, h.1), if_zero _ (tool_fault_in c) (stop_zero c h.2))

again_last : (w t : ℕ) (e : Event) → IsAgain w t e → IsLast w t e × (tool_faults_of w e ≡ 0)
again_last w t (Grant v u) h = absurd h
again_last w t (Regrant v u) h = absurd h
again_last w t (Clean v u) h = absurd h
again_last w t (Arrive v u n) h = absurd h
again_last w t (End v u ns) h = absurd h
again_last w t (Fail v u c ns) h = absurd h
again_last w t (Again v u c ns) h = ((h.0, h.1), if_zero _ (tool_fault_in c) (stop_zero c h.2))

pub lease_adds : (p : Plan) (s : State) (w : ℕ) (r next : List Event) (o : Option Store) (before now_ : Counts) (x : Leased) → Leases p s w r next o before now_ x → AddsAtMostOne worker w r next
lease_adds p s w r next o before now_ (leased.Granted t) h = elim h.1 [
  | inl choice ↦ inr (Grant w t.0, refl, choice.1)
  | inr fresh ↦ inr (Regrant w t.0, refl, fresh.1)
]
lease_adds p s w r next o before now_ (leased.Swept t) h = inr (Clean w t.0, refl, h.2)
lease_adds p s w r next o before now_ (leased.Failed t) h = inr (h.2.entry, last_worker w t.0 h.2.entry (fail_last w t.0 h.2.entry h.2.kind).0, h.2.is)
lease_adds p s w r next o before now_ (leased.Again t) h = inr (h.2.entry, last_worker w t.0 h.2.entry (again_last w t.0 h.2.entry h.2.kind).0, h.2.is)
lease_adds p s w r next o before now_ leased.Done h = inl h.1
lease_adds p s w r next o before now_ leased.Stopped h = inl h.1
lease_adds p s w r next o before now_ leased.NotYet h = inl h.4

-- what a lease answers, in the worker's own entries; where it is the last one, `over` says what the record comes to
pub lease_own : (p : Plan) (s : State) (w : ℕ) (r next mine after_ seen : List Event) (g : Option Charter) (o : Option Store) (before now_ : Counts) (x : Leased) → GrowsAlike r next mine after_ → (next ≡ r → IsOver p s → IfSome g (λ c. IsOverFor c w seen)) → Leases p s w r next o before now_ x → LeasesOwn g w mine after_ seen x
lease_own p s w r next mine after_ seen g o before now_ (leased.Granted t) grow over h = elim h.1 [
  | inl choice ↦ inl (grow.1 (Grant w t.0) choice.1)
  | inr fresh ↦ inr (grow.1 (Regrant w t.0) fresh.1)
]
lease_own p s w r next mine after_ seen g o before now_ (leased.Swept t) grow over h = record { entry = Clean w t.0; is = grow.1 (Clean w t.0) h.2; last = (refl, refl); failures = refl }
lease_own p s w r next mine after_ seen g o before now_ (leased.Failed t) grow over h = let f = fail_last w t.0 h.2.entry h.2.kind in record { entry = h.2.entry; is = grow.1 h.2.entry h.2.is; last = f.0; failures = f.1 }
lease_own p s w r next mine after_ seen g o before now_ (leased.Again t) grow over h = let f = again_last w t.0 h.2.entry h.2.kind in record { entry = h.2.entry; is = grow.1 h.2.entry h.2.is; last = f.0; failures = f.1 }
lease_own p s w r next mine after_ seen g o before now_ leased.Done grow over h = (grow.0 h.1, over h.1 (inl h.0))
lease_own p s w r next mine after_ seen g o before now_ leased.Stopped grow over h = (grow.0 h.1, over h.1 (inr h.0))
lease_own p s w r next mine after_ seen g o before now_ leased.NotYet grow over h = grow.0 h.4

-- The turn in which a worker leases. The pass knows the charter g; v is the number that the yard was asked with.
pub lease_turn : (law : OwnLaw) (tells : OpenLaw) (b : Book) (c : Charter) (g : Option Charter) (w v : ℕ) (taken next mine mid after_ seen : List Event) (o : Option Store) (before now_ : Counts) (x : Leased)
    → b.plan ≡ c.ordered.plan → b.order.items ≡ c.ordered.tasks.items → g ≡ Some c → v ≡ w → taken ≡ b.history.events → mid ≡ mine → entries_by w b.history.events ≡ mine → NoneOpenBy mine → GrowsAlike taken next mid after_ → seen ≡ next
    → Leases c.ordered.plan (state_at b) v b.history.events next o before now_ x → LeasesOwn g w mine after_ seen x
lease_turn law tells b c g w v taken next mine mid after_ seen o before now_ x plan order is number took middle own none grow saw h =
    lease_own c.ordered.plan (state_at b) w b.history.events next mine after_ seen g o before now_ x
    (subst (λ (l : List Event). GrowsAlike l next mine after_) took (subst (λ (l : List Event). GrowsAlike taken next l after_) middle grow))
    (λ same over. subst (λ (k : Option Charter). IfSome k (λ d. IsOverFor d w seen)) (sym is) (over_for law tells b c w mine seen plan order (saw ∙ same) own none over))
    (subst (λ (n : ℕ). Leases c.ordered.plan (state_at b) n b.history.events next o before now_ x) number h)

-- what a turn may add, where the yard was asked with the number v
pub adds_there : (w v : ℕ) (taken r next : List Event) → v ≡ w → taken ≡ r → AddsAtMostOne worker v r next → AddsAtMostOne worker w taken next
adds_there w v taken r next number took h =
    subst (λ (n : ℕ). AddsAtMostOne worker n taken next) number (subst (λ (l : List Event). AddsAtMostOne worker v l next) (sym took) h)

pub finishes_there : (w v t n : ℕ) (taken r next mine mid after_ : List Event) → v ≡ w → taken ≡ r → mid ≡ mine → GrowsAlike taken next mid after_ → Finishes v t n r next → Finishes w t n mine after_
finishes_there w v t n taken r next mine mid after_ number took middle grow h =
    finishes_grow w t n r next mine after_ (subst (λ (l : List Event). GrowsAlike l next mine after_) took (subst (λ (l : List Event). GrowsAlike taken next l after_) middle grow)) (subst (λ (k : ℕ). Finishes k t n r next) number h)

-- The turn in which a loan is made. `rs` and `ds` are the states of its parts.
pub lend_adds : {L : Type 0} (Takes : Event → ℕ → Type 0) (w t : ℕ) (r next : List Event) (o : Option Store) (before now_ : Counts) (x : Option L) → IfSome x (λ l. next ≡ r) → IfNone x (Adds r next (IsFailure w t) Takes o before now_) → AddsAtMostOne worker w r next
lend_adds Takes w t r next o before now_ None same adds = finishes_adds w t 0 r next (ends_last adds.entry (failure_done w t adds.entry adds.kind) adds.is)
  where
    ends_last : (e : Event) → IsDone w t e × (tool_faults_of w e ≡ 0) → next ≡ r ++ e ∷ [] → Finishes w t 0 r next
    ends_last e d is = record { entry = e; is = is; last = done_last w t e d.0; failures = d.1 }
lend_adds Takes w t r next o before now_ (Some l) same adds = inl same

pub none_turn : {L : Type 0} (Takes : Event → ℕ → Type 0) (w v t : ℕ) (taken r next mine mid after_ : List Event) (o : Option Store) (before now_ : Counts) (x : Option L) → v ≡ w → taken ≡ r → mid ≡ mine → GrowsAlike taken next mid after_ → IfNone x (Adds r next (IsFailure v t) Takes o before now_) → IfNone x (Finishes w t 0 mine after_)
none_turn Takes w v t taken r next mine mid after_ o before now_ (Some l) number took middle grow adds = tt
none_turn Takes w v t taken r next mine mid after_ o before now_ None number took middle grow adds =
    let d = failure_done v t adds.entry adds.kind in
    finishes_there w v t 0 taken r next mine mid after_ number took middle grow (record { entry = adds.entry; is = adds.is; last = done_last v t adds.entry d.0; failures = d.1 })

pub same_turn : {L : Type 0} (taken r next mine mid after_ : List Event) (x : Option L) → taken ≡ r → mid ≡ mine → GrowsAlike taken next mid after_ → IfSome x (λ l. next ≡ r) → IfSome x (λ l. after_ ≡ mine)
same_turn taken r next mine mid after_ None took middle grow same = tt
same_turn taken r next mine mid after_ (Some l) took middle grow same = grow.0 (same ∙ sym took) ∙ middle

told_case : (b : Bool) (m : Store) → is_some (cond b (Some m) None) ≡ b
told_case true m = refl
told_case false m = refl

pub held_turn : {L : Type 0} (apply : Apply) (b : Book) (c : Charter) (g : Option Charter) (o : Option Store) (t : ℕ) (rs : L → List ReadState) (ds : L → List DraftState) (x : Option L) → b.plan ≡ c.ordered.plan → g ≡ Some c → c.tells ≡ is_some o → HasLoan (kind c.ordered.plan t) → IfSome x (λ l. IsLent apply c.ordered.plan c.opened c.marked o t (rs l) (ds l)) → IfSome x (λ l. IsHeldFor apply g t (rs l) (ds l))
held_turn apply b c g o t rs ds None plan is tells has lent = tt
held_turn apply b c g o t rs ds (Some l) plan is tells has lent = record {
  charter = c;
  is = is;
  proper = subst IsProper plan b.proper;
  has_loan = has;
  held = held_by apply c.ordered.plan c.opened c.marked o (told_of c) t (rs l) (ds l) (told_case c.tells c.marked ∙ tells) (lent_held apply c.ordered.plan c.opened c.marked o t (rs l) (ds l) lent);
}

-- The turn in which a loan is settled or abandoned: only the case of what is told matters.
draft_by : (o n : Option Store) (x : Aim) (d : DraftState) → is_some n ≡ is_some o → IsDraftOf o x d → IsDraftOf n x d
draft_by None None x d e h = h
draft_by None (Some s) x d e h = absurd cc
draft_by (Some s) None x d e h = absurd cc
draft_by (Some s) (Some z) x d e h = h

drafts_by : (o n : Option Store) (xs : List Aim) (ds : List DraftState) → is_some n ≡ is_some o → AreDrafts o xs ds → AreDrafts n xs ds
drafts_by o n [] [] e h = tt
drafts_by o n [] (d ∷ ds) e h = absurd h
drafts_by o n (x ∷ xs) [] e h = absurd h
drafts_by o n (x ∷ xs) (d ∷ ds) e h = (draft_by o n x d e h.0, drafts_by o n xs ds e h.1)

told_by : (P : Type 0) (o n : Option Store) → is_some n ≡ is_some o → IfSome o (λ s. P) → IfSome n (λ s. P)
told_by P None None e h = tt
told_by P None (Some s) e h = absurd cc
told_by P (Some s) None e h = absurd cc
told_by P (Some s) (Some z) e h = h

finish_by : (apply : Apply) (p : Plan) (first : List Event) (m : Store) (o n : Option Store) (t : ℕ) (rs : List ReadState) (ds : List DraftState) (filled : Result Filled Cause) → is_some n ≡ is_some o → CanFinish apply p first m o t rs ds filled → CanFinish apply p first m n t rs ds filled
finish_by apply p first m o n t rs ds (Ok f) e h = record {
  loan = record { readings = h.loan.readings; drafts = drafts_by o n (targets p t) ds e h.loan.drafts };
  sizes_are = h.sizes_are;
  small = h.small;
  delivery = h.delivery;
  of_bytes = h.of_bytes;
  whole = h.whole;
  carried = λ opening. told_by (AreCarried p (carries apply p m) t ds (digest_in f)) o n e (h.carried opening);
}
finish_by apply p first m o n t rs ds (Err c) e h = record {
  loan = record { readings = h.loan.readings; drafts = drafts_by o n (targets p t) ds e h.loan.drafts };
  kind_is = h.kind_is;
  fits = h.fits;
  shown = h.shown;
  is_told = λ opening. told_by (IsCause apply (λ pfn. files.get m.replicas pfn) p (carries apply p m) t c) o n e (h.is_told opening);
}

pub finish_here : (apply : Apply) (g : Option Charter) (c : Charter) (o : Option Store) (t : ℕ) (rs : List ReadState) (ds : List DraftState) (filled : Result Filled Cause) → g ≡ Some c → c.tells ≡ is_some o → IfSome g (λ d. CanFinish apply (plan_of d) d.opened d.marked (told_of d) t rs ds filled) → CanFinish apply c.ordered.plan c.opened c.marked o t rs ds filled
finish_here apply g c o t rs ds filled is tells h =
    finish_by apply c.ordered.plan c.opened c.marked (told_of c) o t rs ds filled (sym (told_case c.tells c.marked ∙ tells))
    (subst (λ (k : Option Charter). IfSome k (λ d. CanFinish apply (plan_of d) d.opened d.marked (told_of d) t rs ds filled)) is h)

pub filled_here : (apply : Apply) (g : Option Charter) (c : Charter) (t : ℕ) (filled : Result Filled Cause) → g ≡ Some c → IfSome g (λ d. IsFilledOf apply (plan_of d) t filled) → IsFilledOf apply c.ordered.plan t filled
filled_here apply g c t filled is h = subst (λ (k : Option Charter). IfSome k (λ d. IsFilledOf apply (plan_of d) t filled)) is h

-- a copy of the yard's plan is that of the charter
pub plan_copied : (g : Option Charter) (c : Charter) (q : Plan) (copied : Result Plan Memory) → g ≡ Some c → IfOk copied (λ p. p ≡ q) → q ≡ plan_of c → IsPlanOf g copied
plan_copied g c q (Ok p) is same of = subst (λ (k : Option Charter). IfSome k (λ d. p ≡ plan_of d)) (sym is) (same ∙ of)
plan_copied g c q (Err refused) is same of = tt

-- a task that is open by the worker's own entries is open at the yard at hand
pub open_there : (law : OwnLaw) (tells : OpenLaw) (b : Book) (w v t : ℕ) (mine : List Event) → v ≡ w → entries_by w b.history.events ≡ mine → is_open_after t false mine ≡ true → IsOpen (state_at b) v t
open_there law tells b w v t mine number same h = subst (λ (n : ℕ). IsOpen (state_at b) n t) (sym number) (open_at law tells b w t mine same h)
