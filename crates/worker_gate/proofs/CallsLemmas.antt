-- Calls of the host, entry by entry.
use Rattle.std.proofs.Common.{◌≡◌, ℕ, ◌+◌, ◌≤◌, Bool, true, false, cond, inl, inr, List, [], ◌∷◌, ◌++◌, length, refl, sym, ap, subst, ◌∙◌, append_assoc, arith}
use Rattle.std.specs.Prelude.{Option}
use Rattle.outside.specs.code.Counts.{IsLater}
use Rattle.outside.specs.declared.counts.Counts.{Counts}
use Rattle.outside.specs.declared.store.Store.{Store}
use Rattle.values.specs.declared.numbers.TaskId.{TaskId}
use Rattle.plan_core.specs.declared.plan.Plan.{Plan}
use Rattle.run_record.specs.declared.entry.Cause.{Cause}
use Rattle.run_record.specs.Events.{Event, Grant, Arrive, End, Clean, Fail, Again, Regrant}
use Rattle.lease_book.specs.Book.{failure, is_tried_again}
use Rattle.lease_rules.specs.State.{State}
use Rattle.site_yard.specs.code.Failures.{AreMore, IsMore}
use Rattle.site_yard.specs.code.Lending.{count_parts}
use Rattle.site_yard.specs.code.Loan.{targets}
use Rattle.site_yard.specs.code.Yard.{Adds, IsAgain, IsFail, IsFailure, IsSettled, Leases, TakesPublished, TakesWithin}
use Rattle.site_yard.specs.declared.leased.Leased.TheVariants as leased
use Rattle.worker_gate.specs.code.Calls.{AddsCalls, AreAllCalls, AreCalls, EndsCalls}

-- two steps
pub more_then : (n k a b c : ℕ) → IsMore n a b → IsMore k b c → b ≤ c → IsMore (n + k) a c
more_then n k a b c first second later = λ small.
    let one = first (omega (arith, small, later)) in
    let two = second small in
    omega (arith, one, two)

more_none : (c : Counts) → IsMore 0 c.done c.done
more_none c = λ small. omega arith

none_of : (before now_ : Counts) → now_ ≡ before → IsMore 0 before.done now_.done
none_of before now_ same = let e : now_.done ≡ before.done = ap (λ (c : Counts). c.done) same in λ small. omega (arith, e)

all_calls_both : (p : Plan) (xs ys : List Event) (n k : ℕ) → AreAllCalls p xs n → AreAllCalls p ys k → AreAllCalls p (xs ++ ys) (n + k)
all_calls_both p [] ys n k none b = subst (AreAllCalls p ys) (omega (arith, none)) b
all_calls_both p (e ∷ xs) ys n k a b =
    let sum : n ≡ a.0 + a.1 = a.4 in
    (a.0, a.1 + k, a.2, all_calls_both p xs ys a.1 k a.3 b, omega (arith, sum))

no_more : (r : List Event) → r ≡ r ++ []
no_more [] = refl
no_more (e ∷ r) = ap (λ l. e ∷ l) (no_more r)

pub calls_none : (p : Plan) (r : List Event) (before now_ : Counts) → now_ ≡ before → AddsCalls p r r before now_
calls_none p r before now_ same = record { added = []; is = no_more r; calls = 0; are = refl; asked = none_of before now_ same }

pub calls_no_entry : (p : Plan) (r new : List Event) (before now_ : Counts) → new ≡ r → now_ ≡ before → AddsCalls p r new before now_
calls_no_entry p r new before now_ is same = subst (λ l. AddsCalls p r l before now_) (sym is) (calls_none p r before now_ same)

calls_one : (p : Plan) (r new : List Event) (e : Event) (n : ℕ) (before now_ : Counts) → new ≡ r ++ e ∷ [] → AreCalls p e n → IsMore n before.done now_.done → AddsCalls p r new before now_
calls_one p r new e n before now_ is are asked = record { added = e ∷ []; is = is; calls = n; are = (n, 0, are, refl, omega arith); asked = asked }

pub calls_both : (p : Plan) (r mid new : List Event) (a b c : Counts) → AddsCalls p r mid a b → AddsCalls p mid new b c → IsLater b c → AddsCalls p r new a c
calls_both p r mid new a b c u v later = record {
  added = u.added ++ v.added;
  is = v.is ∙ ap (λ l. l ++ v.added) u.is ∙ append_assoc r u.added v.added;
  calls = u.calls + v.calls;
  are = all_calls_both p u.added v.added u.calls v.calls u.are v.are;
  asked = more_then u.calls v.calls a.done b.done c.done u.asked v.asked later.done;
}

-- an entry that settles or abandons a loan
settled_calls : (p : Plan) (w t n : ℕ) (sizes : List ℕ) (e : Event) → IsSettled p w t sizes e → TakesPublished (length (targets p t)) e n → AreCalls p e (count_parts p t + n)
settled_calls p w t n sizes (Arrive v u k) h takes = subst (λ z. count_parts p t + n ≡ count_parts p z + length (targets p z)) (sym h.1) (ap (λ z. count_parts p t + z) takes)
settled_calls p w t n sizes (End v u ns) h takes = subst (λ z. count_parts p t + n ≡ count_parts p z + length (targets p z)) (sym h.1) (ap (λ z. count_parts p t + z) takes)
settled_calls p w t n sizes (Fail v u c ns) h takes = subst (λ z. count_parts p t + n ≤ count_parts p z + length ns) (sym h.1) (omega (arith, takes))
settled_calls p w t n sizes (Again v u c ns) h takes = subst (λ z. count_parts p t + n ≤ count_parts p z + length ns) (sym h.1) (omega (arith, takes))
settled_calls p w t n sizes (Grant v u) h takes = absurd h
settled_calls p w t n sizes (Regrant v u) h takes = absurd h
settled_calls p w t n sizes (Clean v u) h takes = absurd h

pub settles_calls : (p : Plan) (w t : ℕ) (sizes : List ℕ) (r new : List Event) (o : Option Store) (before now_ : Counts) → Adds r new (IsSettled p w t sizes) (TakesPublished (length (targets p t))) o before now_ → EndsCalls p t r new before now_
settles_calls p w t sizes r new o before now_ adds = record { entry = adds.entry; is = adds.is; calls = adds.calls; are = settled_calls p w t adds.calls sizes adds.entry adds.kind adds.takes; asked = adds.asked }

failed_calls : (p : Plan) (b : Bool) (w t : ℕ) (c : Cause) → AreCalls p (cond b (Again w t c []) (Fail w t c [])) (count_parts p t + 0)
failed_calls p true w t c = omega arith
failed_calls p false w t c = omega arith

pub abandons_calls : (p : Plan) (s : State) (w t : ℕ) (c : Cause) (r new : List Event) (before now_ : Counts) → new ≡ r ++ failure p s w t c [] ∷ [] → IsMore 0 before.done now_.done → EndsCalls p t r new before now_
abandons_calls p s w t c r new before now_ is asked = record { entry = failure p s w t c []; is = is; calls = 0; are = failed_calls p (is_tried_again p s t c) w t c; asked = asked }

-- a loan with what ended it, or one that wasn't made
pub lent_then : (p : Plan) (t : ℕ) (r mid new : List Event) (a b c : Counts) → mid ≡ r → AreMore (count_parts p t) 0 0 a b → EndsCalls p t mid new b c → IsLater b c → AddsCalls p r new a c
lent_then p t r mid new a b c same lent ends later =
    calls_one p r new ends.entry (count_parts p t + ends.calls) a c (ends.is ∙ ap (λ l. l ++ ends.entry ∷ []) same) ends.are
    (more_then (count_parts p t) ends.calls a.done b.done c.done lent.done_is ends.asked later.done)

unlent_calls : (p : Plan) (w t n : ℕ) (e : Event) → IsFailure w t e → TakesWithin (count_parts p t) e n → AreCalls p e n
unlent_calls p w t n (Fail v u c ns) h takes = subst (λ z. n ≤ count_parts p z + length ns) (sym h.1) (omega (arith, takes))
unlent_calls p w t n (Again v u c ns) h takes = subst (λ z. n ≤ count_parts p z + length ns) (sym h.1) (omega (arith, takes))
unlent_calls p w t n (Grant v u) h takes = absurd h
unlent_calls p w t n (Regrant v u) h takes = absurd h
unlent_calls p w t n (Clean v u) h takes = absurd h
unlent_calls p w t n (End v u ns) h takes = absurd h
unlent_calls p w t n (Arrive v u k) h takes = absurd h

pub fails_to_lend_calls : (p : Plan) (w t : ℕ) (r new : List Event) (o : Option Store) (before now_ : Counts) → Adds r new (IsFailure w t) (TakesWithin (count_parts p t)) o before now_ → AddsCalls p r new before now_
fails_to_lend_calls p w t r new o before now_ adds = calls_one p r new adds.entry adds.calls before now_ adds.is (unlent_calls p w t adds.calls adds.entry adds.kind adds.takes) adds.asked

-- what a lease takes
granted_calls : (p : Plan) (s : State) (w : ℕ) (t : TaskId) (r mid : List Event) (o : Option Store) (before now_ : Counts) → Leases p s w r mid o before now_ (leased.Granted t) → AddsCalls p r mid before now_
granted_calls p s w t r mid o before now_ leases = elim leases.1 [
  | inl choice ↦ calls_one p r mid (Grant w t.0) 0 before now_ choice.1 refl (none_of before now_ leases.2)
  | inr fresh ↦ calls_one p r mid (Regrant w t.0) 0 before now_ fresh.1 refl (none_of before now_ leases.2)
]

pub grants_calls : (p q : Plan) (s : State) (w : ℕ) (t : TaskId) (r mid new : List Event) (o : Option Store) (a b c : Counts) → q ≡ p → Leases p s w r mid o a b (leased.Granted t) → AddsCalls q mid new b c → IsLater b c → AddsCalls p r new a c
grants_calls p q s w t r mid new o a b c same leases does later =
    calls_both p r mid new a b c (granted_calls p s w t r mid o a b leases) (subst (λ z. AddsCalls z mid new b c) same does) later

pub sweeps_calls : (p : Plan) (s : State) (w : ℕ) (t : TaskId) (r new : List Event) (o : Option Store) (before now_ : Counts) → Leases p s w r new o before now_ (leased.Swept t) → AddsCalls p r new before now_
sweeps_calls p s w t r new o before now_ leases = calls_one p r new (Clean w t.0) 1 before now_ leases.2 refl leases.3.done_is

fail_calls : (p : Plan) (w t : ℕ) (e : Event) → IsFail w t e → AreCalls p e 0
fail_calls p w t (Fail v u c ns) h = omega arith
fail_calls p w t e h = absurd h

again_calls : (p : Plan) (w t : ℕ) (e : Event) → IsAgain w t e → AreCalls p e 0
again_calls p w t (Again v u c ns) h = omega arith
again_calls p w t e h = absurd h

pub fails_calls : (p : Plan) (s : State) (w : ℕ) (t : TaskId) (r new : List Event) (o : Option Store) (before now_ : Counts) → Leases p s w r new o before now_ (leased.Failed t) → AddsCalls p r new before now_
fails_calls p s w t r new o before now_ leases =
    let adds = leases.2 in
    calls_one p r new adds.entry adds.calls before now_ adds.is (subst (AreCalls p adds.entry) (sym adds.takes) (fail_calls p w t.0 adds.entry adds.kind)) adds.asked

pub tries_again_calls : (p : Plan) (s : State) (w : ℕ) (t : TaskId) (r new : List Event) (o : Option Store) (before now_ : Counts) → Leases p s w r new o before now_ (leased.Again t) → AddsCalls p r new before now_
tries_again_calls p s w t r new o before now_ leases =
    let adds = leases.2 in
    calls_one p r new adds.entry adds.calls before now_ adds.is (subst (AreCalls p adds.entry) (sym adds.takes) (again_calls p w t.0 adds.entry adds.kind)) adds.asked
