-- What a step has added, from the clauses of a yard's calls.
use Rattle.std.proofs.Common.{◌≡◌, ℕ, ◌+◌, ◌≤◌, ◌<◌, Bool, true, false, cond, inl, inr, List, [], ◌∷◌, ◌++◌, length, refl, sym, ap, subst, ◌∙◌, arith, append_assoc, length-append}
use Rattle.std.specs.Prelude.{Option}
use Rattle.std.proofs.Math.Path.{fun_ext}
use Rattle.outside.specs.code.Counts.{Rose}
use Rattle.outside.specs.declared.counts.Counts.{Counts}
use Rattle.values.specs.declared.numbers.TaskId.{TaskId}
use Rattle.outside.specs.declared.store.Store.{Store}
use Rattle.plan_core.specs.declared.plan.Plan.{Plan}
use Rattle.plan_core.specs.Words.{task_numbers}
use Rattle.run_record.specs.declared.entry.Cause.{Cause}
use Rattle.run_record.specs.declared.entry.Cause.TheVariants as why
use Rattle.run_record.specs.Events.{Event, Grant, Arrive, End, Clean, Fail, Again, Regrant}
use Rattle.storage_simulation.specs.declared.ordered.Ordered.{Ordered}
use Rattle.lease_book.specs.declared.book.Book.{Book}
use Rattle.lease_book.specs.Book.{state_at}
use Rattle.lease_rules.specs.Choice.{IsChoice}
use Rattle.lease_rules.specs.code.Law.{IsConsistent, IsSafeState}
use Rattle.lease_rules.specs.Legal.{IsOpen}
use Rattle.lease_rules.specs.State.{State, after, now, opened}
use Rattle.lease_book.specs.RunState.{IsSame, state_of}
use Rattle.site_yard.specs.code.Failures.{RoseBy, tool_fault_in, tool_faults, tool_faults_of}
use Rattle.site_yard.specs.code.Yard.{IsAgain, IsFail, IsFailure, IsLending, IsSettled, IsStop, Leases}
use Rattle.site_yard.specs.declared.leased.Leased.TheVariants as leased
use Rattle.lease_rules.specs.Owning.{worker}
use Rattle.worker_gate.specs.code.Alone.{IsNext, NoneOpen, TakesFirst}
use Rattle.worker_gate.specs.code.Law.{HasLeaseLaws}
use Rattle.worker_gate.specs.code.Stepping.{DoesTask, WorksOn}
use Rattle.worker_gate.specs.code.Tending.{IsDone}
use Rattle.worker_gate.proofs.StateLemmas.{Closes, OnlyOpen, choice_first, done_closes, granted_only, granted_open, no_fresh, none_after, none_only, none_runs, same_number, step_one}

-- a count that stays
pub rose_zero : (n a : ℕ) → n ≡ 0 → RoseBy n a a
rose_zero n a e = λ h. omega (arith, e)

rose_once : (a b : ℕ) → Rose a b → RoseBy 1 a b
rose_once a b rose = λ h. omega (arith, rose, h)

pub rose_both : (n m a b c : ℕ) → b ≤ c → RoseBy n a b → RoseBy m b c → RoseBy (n + m) a c
rose_both n m a b c le x y = λ h. let first = x (omega (arith, le, h)) in let second = y h in omega (arith, first, second)

-- causes that aren't the tool's
pub stop_zero : (c : Cause) → IsStop c → tool_fault_in c ≡ 0
stop_zero why.HostFailed h = refl
stop_zero why.Memory h = refl
stop_zero c h = absurd h

lending_zero : (c : Cause) → IsLending c → tool_fault_in c ≡ 0
lending_zero why.Absent h = refl
lending_zero (why.TooLong n) h = refl
lending_zero why.HostFailed h = refl
lending_zero why.Memory h = refl
lending_zero c h = absurd h

pub if_zero : (b : Bool) (n : ℕ) → n ≡ 0 → cond b n 0 ≡ 0
if_zero true n e = e
if_zero false n e = refl

-- what a call of the yard adds for a task is the worker's entry after its grant, and no failure of its tool
pub failure_done : (w t : ℕ) (e : Event) → IsFailure w t e → IsDone w t e × (tool_faults_of w e ≡ 0)
failure_done w t (Fail v u c ns) h = ((h.0, h.1), if_zero _ (tool_fault_in c) (lending_zero c h.2))
failure_done w t (Again v u c ns) h = ((h.0, h.1), if_zero _ (tool_fault_in c) (lending_zero c h.2))
failure_done w t (Grant v u) h = absurd h
failure_done w t (Regrant v u) h = absurd h
failure_done w t (Clean v u) h = absurd h
failure_done w t (End v u ns) h = absurd h
failure_done w t (Arrive v u n) h = absurd h

pub settled_done : (p : Plan) (w t : ℕ) (sizes : List ℕ) (e : Event) → IsSettled p w t sizes e → IsDone w t e × (tool_faults_of w e ≡ 0)
settled_done p w t sizes (Arrive v u n) h = ((h.0, h.1), refl)
settled_done p w t sizes (End v u ns) h = ((h.0, h.1), refl)
settled_done p w t sizes (Fail v u c ns) h = ((h.0, h.1), if_zero _ (tool_fault_in c) (stop_zero c h.2))
settled_done p w t sizes (Again v u c ns) h = ((h.0, h.1), if_zero _ (tool_fault_in c) (stop_zero c h.2))
settled_done p w t sizes (Grant v u) h = absurd h
settled_done p w t sizes (Regrant v u) h = absurd h
settled_done p w t sizes (Clean v u) h = absurd h

pub wide : (n a b : ℕ) → n ≡ 0 → a ≤ b → RoseBy n a b
wide n a b e le = λ h. omega (arith, e, le)

-- the cause that a worker tells
pub failed_done : (b : Bool) (w t : ℕ) (c : Cause) → IsDone w t (cond b (Again w t c []) (Fail w t c []))
failed_done true w t c = (refl, refl)
failed_done false w t c = (refl, refl)

pub failed_faults : (b : Bool) (w t : ℕ) (c : Cause) → tool_faults_of w (cond b (Again w t c []) (Fail w t c [])) ≡ tool_fault_in c
failed_faults true w t c = ap (λ (x : Bool). cond x (tool_fault_in c) 0) (same_number w)
failed_faults false w t c = ap (λ (x : Bool). cond x (tool_fault_in c) 0) (same_number w)

-- how the count of the tool shows a cause that a worker tells
pub told_rose : (c : Cause) (a b : ℕ) → a ≤ b → ((j : _) → c ≡ why.ToolFailed j → Rose a b) → RoseBy (tool_fault_in c) a b
told_rose why.Absent a b le h = wide 0 a b refl le
told_rose (why.TooLong n) a b le h = wide 0 a b refl le
told_rose (why.Checksum d) a b le h = wide 0 a b refl le
told_rose (why.Oversize j f n) a b le h = wide 0 a b refl le
told_rose (why.Declined j) a b le h = wide 0 a b refl le
told_rose (why.ToolFailed j) a b le h = rose_once a b (h j refl)
told_rose why.HostFailed a b le h = wide 0 a b refl le
told_rose why.Memory a b le h = wide 0 a b refl le

-- two books of one run
pub record IsOneRun (a b : Book) : Type 0 where
  pub plan : b.plan ≡ a.plan
  pub order : b.order.items ≡ a.order.items

pub one_run_of : (a b : Book) (x y : Ordered) → a.plan ≡ x.plan → a.order.items ≡ x.tasks.items → b.plan ≡ y.plan → b.order.items ≡ y.tasks.items → y ≡ x → IsOneRun a b
one_run_of a b x y ap_ ao bp bo e = record { plan = bp ∙ ap (λ o. o.plan) e ∙ sym ap_; order = bo ∙ ap (λ o. o.tasks.items) e ∙ sym ao }

pub state_next : (a b : Book) (e : Event) → IsOneRun a b → b.history.events ≡ a.history.events ++ e ∷ [] → state_at b ≡ after a.plan (state_at a) e
state_next a b e same is =
    ap (λ p. now p (task_numbers b.order.items) b.history.events) same.plan
    ∙ ap (λ xs. now a.plan (task_numbers xs) b.history.events) same.order
    ∙ ap (λ r. now a.plan (task_numbers a.order.items) r) is
    ∙ step_one a.plan (opened (task_numbers a.order.items)) a.history.events e

same_state : (a b : State) → IsSame a b → a ≡ b
same_state a b same = λ i. record {
  phase = fun_ext same.phase i;
  holder = fun_ext same.holder i;
  agains = fun_ext same.agains i;
  failed = fun_ext same.failed i;
  held = fun_ext same.held i;
  failing = same.failing i;
  rest = same.rest i;
}

pub consistent_at : (b : Book) → IsConsistent b.plan (state_at b)
consistent_at b = subst (IsConsistent b.plan) (same_state (state_of b.state) (state_at b) b.kept.same) b.kept.consistent

longer_by : (r new : List Event) (e : Event) → new ≡ r ++ e ∷ [] → length r < length new
longer_by r new e is = let l = ap length is in let m = length-append r (e ∷ []) in omega (arith, l, m)

pub one_fault : (w : ℕ) (e : Event) → tool_faults w (e ∷ []) ≡ tool_faults_of w e
unfolding tool_faults
one_fault w e = omega arith

two_faults : (e f : Event) → tool_faults 0 (e ∷ f ∷ []) ≡ tool_faults_of 0 e + tool_faults_of 0 f
unfolding tool_faults
two_faults e f = omega arith

-- an entry after a grant is worker 0's, and begins nothing
done_by : (t : ℕ) (e : Event) → IsDone 0 t e → (worker e ≡ 0) × ((s : State) → IsOpen s 0 t → TakesFirst s e)
done_by t (Grant w u) h = absurd h
done_by t (Regrant w u) h = absurd h
done_by t (Clean w u) h = absurd h
done_by t (Arrive w u n) h = (h.0, λ s runs. tt)
done_by t (End w u ns) h = (h.0, λ s runs. tt)
done_by t (Fail w u c ns) h = (h.0, λ s runs. tt)
done_by t (Again w u c ns) h = (h.0, λ s runs. inl (subst (λ v. IsOpen s v u) (sym h.0) (subst (λ x. IsOpen s 0 x) (sym h.1) runs)))

-- what is granted is open
pub granted_is_open : (a b : Book) (t : TaskId) (o : Option Store) (before now_ : Counts) → IsOneRun a b → IsSafeState a.plan (state_at a) → NoneOpen (state_at a) → Leases a.plan (state_at a) 0 a.history.events b.history.events o before now_ (leased.Granted t) → IsOpen (state_at b) 0 t.0
granted_is_open a b t o before now_ same safe none leases = elim leases.1 [
  | inl choice ↦ subst (λ s. IsOpen s 0 t.0) (sym (state_next a b (Grant 0 t.0) same choice.1)) (granted_open a.plan (state_at a) 0 t.0 (consistent_at a) choice.0.no_fail)
  | inr fresh ↦ absurd (no_fresh a.plan (state_at a) t.0 safe (consistent_at a) none fresh.0)
]

choice_works : (a b c : Book) (t x y : ℕ) → HasLeaseLaws a.plan → IsOneRun a b → IsOneRun b c → IsSafeState a.plan (state_at a) → NoneOpen (state_at a) → IsChoice a.plan (state_at a) t → b.history.events ≡ a.history.events ++ Grant 0 t ∷ [] → DoesTask 0 b.history.events c.history.events t x y
    → WorksOn a.plan (state_at a) a.history.events c.history.events (state_at c) x y × (length a.history.events < length c.history.events)
choice_works a b c t x y laws same_b same_c safe none choice is does =
    let e = does.entry in
    let by = done_by t e does.done in
    let mid : state_at b ≡ after a.plan (state_at a) (Grant 0 t) = state_next a b (Grant 0 t) same_b is in
    let both : c.history.events ≡ a.history.events ++ Grant 0 t ∷ e ∷ [] = does.is ∙ ap (λ l. l ++ e ∷ []) is ∙ append_assoc a.history.events (Grant 0 t ∷ []) (e ∷ []) in
    let only : OnlyOpen t (state_at b) = subst (OnlyOpen t) (sym mid) (granted_only a.plan (state_at a) 0 t none) in
    let one = longer_by a.history.events b.history.events (Grant 0 t) is in
    let two = longer_by b.history.events c.history.events e does.is in (
      record {
        added = Grant 0 t ∷ e ∷ [];
        is = both;
        by_zero = (refl, (by.0, tt));
        first = ((none, choice_first a.plan laws (state_at a) t safe (consistent_at a) none choice), (by.1 _ (granted_open a.plan (state_at a) 0 t (consistent_at a) choice.no_fail), tt));
        none_open = subst NoneOpen (sym (state_next b c e same_c does.is)) (none_after b.plan (state_at b) t e only (done_closes 0 t e does.done));
        counted = λ h. let k = does.counted h in omega (arith, two_faults (Grant 0 t) e, k);
      },
      omega (arith, one, two),
    )

pub granted_works : (a b c : Book) (t : TaskId) (x y : ℕ) (o : Option Store) (before now_ : Counts) → HasLeaseLaws a.plan → IsOneRun a b → IsOneRun b c → IsSafeState a.plan (state_at a) → NoneOpen (state_at a) → Leases a.plan (state_at a) 0 a.history.events b.history.events o before now_ (leased.Granted t) → DoesTask 0 b.history.events c.history.events t.0 x y
    → WorksOn a.plan (state_at a) a.history.events c.history.events (state_at c) x y × (length a.history.events < length c.history.events)
granted_works a b c t x y o before now_ laws same_b same_c safe none leases does = elim leases.1 [
  | inl choice ↦ choice_works a b c t.0 x y laws same_b same_c safe none choice.0 choice.1 does
  | inr fresh ↦ absurd (no_fresh a.plan (state_at a) t.0 safe (consistent_at a) none fresh.0)
]

-- one entry that a lease adds by itself
one_works : (a b : Book) (t x : ℕ) (e : Event) → IsOneRun a b → NoneOpen (state_at a) → b.history.events ≡ a.history.events ++ e ∷ [] → Closes t e → worker e ≡ 0 → TakesFirst (state_at a) e → tool_faults_of 0 e ≡ 0
    → WorksOn a.plan (state_at a) a.history.events b.history.events (state_at b) x x × (length a.history.events < length b.history.events)
one_works a b t x e same none is closes by first zero_ = (
  record {
    added = e ∷ [];
    is = is;
    by_zero = (by, tt);
    first = (first, tt);
    none_open = subst NoneOpen (sym (state_next a b e same is)) (none_after a.plan (state_at a) t e (none_only (state_at a) t none) closes);
    counted = rose_zero _ x (one_fault 0 e ∙ zero_);
  },
  longer_by a.history.events b.history.events e is,
)

pub swept_works : (a b : Book) (t : TaskId) (x : ℕ) (o : Option Store) (before now_ : Counts) → HasLeaseLaws a.plan → IsOneRun a b → IsSafeState a.plan (state_at a) → NoneOpen (state_at a) → Leases a.plan (state_at a) 0 a.history.events b.history.events o before now_ (leased.Swept t)
    → WorksOn a.plan (state_at a) a.history.events b.history.events (state_at b) x x × (length a.history.events < length b.history.events)
swept_works a b t x o before now_ laws same safe none leases =
    one_works a b t.0 x (Clean 0 t.0) same none leases.2 refl refl (none, choice_first a.plan laws (state_at a) t.0 safe (consistent_at a) none leases.0) refl

fail_is : (t : ℕ) (e : Event) → IsFail 0 t e → Closes t e × (worker e ≡ 0) × ((s : State) → TakesFirst s e) × (tool_faults_of 0 e ≡ 0)
fail_is t (Grant w u) h = absurd h
fail_is t (Regrant w u) h = absurd h
fail_is t (Clean w u) h = absurd h
fail_is t (Arrive w u n) h = absurd h
fail_is t (End w u ns) h = absurd h
fail_is t (Again w u c ns) h = absurd h
fail_is t (Fail w u c ns) h = (h.1, h.0, λ s. tt, if_zero _ (tool_fault_in c) (stop_zero c h.2))

again_is : (t : ℕ) (e : Event) → IsAgain 0 t e → Closes t e × (worker e ≡ 0) × ((s : State) → IsNext s t → TakesFirst s e) × (tool_faults_of 0 e ≡ 0)
again_is t (Grant w u) h = absurd h
again_is t (Regrant w u) h = absurd h
again_is t (Clean w u) h = absurd h
again_is t (Arrive w u n) h = absurd h
again_is t (End w u ns) h = absurd h
again_is t (Fail w u c ns) h = absurd h
again_is t (Again w u c ns) h = (h.1, h.0, λ s next. inr (subst (IsNext s) (sym h.1) next), if_zero _ (tool_fault_in c) (stop_zero c h.2))

pub failed_works : (a b : Book) (t : TaskId) (x : ℕ) (o : Option Store) (before now_ : Counts) → IsOneRun a b → NoneOpen (state_at a) → Leases a.plan (state_at a) 0 a.history.events b.history.events o before now_ (leased.Failed t)
    → WorksOn a.plan (state_at a) a.history.events b.history.events (state_at b) x x × (length a.history.events < length b.history.events)
failed_works a b t x o before now_ same none leases =
    let adds = leases.2 in
    let is = fail_is t.0 adds.entry adds.kind in
    one_works a b t.0 x adds.entry same none adds.is is.0 is.1 (is.2 (state_at a)) is.3

pub again_works : (a b : Book) (t : TaskId) (x : ℕ) (o : Option Store) (before now_ : Counts) → HasLeaseLaws a.plan → IsOneRun a b → IsSafeState a.plan (state_at a) → NoneOpen (state_at a) → Leases a.plan (state_at a) 0 a.history.events b.history.events o before now_ (leased.Again t)
    → WorksOn a.plan (state_at a) a.history.events b.history.events (state_at b) x x × (length a.history.events < length b.history.events)
again_works a b t x o before now_ laws same safe none leases =
    let adds = leases.2 in
    let is = again_is t.0 adds.entry adds.kind in
    one_works a b t.0 x adds.entry same none adds.is is.0 is.1 (is.2 (state_at a) (none, choice_first a.plan laws (state_at a) t.0 safe (consistent_at a) none leases.0)) is.3

-- where no task is open a lease needn't wait
pub never_waits : (a b : Book) (o : Option Store) (before now_ : Counts) → NoneOpen (state_at a) → Leases a.plan (state_at a) 0 a.history.events b.history.events o before now_ leased.NotYet → ⊥
never_waits a b o before now_ none leases = none_runs a.plan (state_at a) (consistent_at a) none leases.0 leases.3.0 leases.3.1
