-- What entries make of a state in which at most one task is open.
use Rattle.std.proofs.Common.{◌≡◌, ℕ, ◌+◌, ◌≤◌, ◌<◌, Bool, true, false, cond, eqb, List, [], ◌∷◌, ◌++◌, length, take, refl, sym, ap, subst, ◌∙◌, arith}
use Rattle.std.specs.Prelude.{Option, Some, None, slice_get}
use Rattle.plan_core.specs.declared.plan.Plan.{Plan}
use Rattle.plan_core.specs.declared.plan.Task.{Task}
use Rattle.plan_core.specs.declared.plan.TaskKind.{TaskKind}
use Rattle.plan_core.specs.declared.plan.TaskKind.TheVariants.{Transfer, Run, Clean as CleanTask}
use Rattle.plan_core.specs.Words.{count_tasks, is_clean_kind, kind, kind_in}
use Rattle.plan_core.proofs.TestLemmas.{by_bool}
use Rattle.storage_simulation.specs.declared.standing.Phase.{Phase}
use Rattle.storage_simulation.specs.declared.standing.Phase.TheVariants.{Ended, Runs, Waits}
use Rattle.run_record.specs.declared.entry.Cause.{Cause}
use Rattle.run_record.specs.Events.{Event, Grant, Arrive, End, Clean, Fail, Again, Regrant}
use Rattle.lease_rules.specs.Choice.{IsChoice, IsFresh, IsFreshAmong}
use Rattle.lease_rules.specs.code.Law.{IsConsistent, IsIdle, IsSafeState, IsSoundState}
use Rattle.lease_rules.specs.Legal.{IsOpen, LegalFrom}
use Rattle.lease_rules.specs.code.Room.{entries_room}
use Rattle.lease_rules.specs.State.{State, after, now_from, put}
use Rattle.worker_gate.specs.code.Alone.{NoneOpen, TakeFirst}
use Rattle.worker_gate.specs.code.Law.{HasLeaseLaws}
use Rattle.worker_gate.specs.code.Tending.{HasLoan, IsDone}
use Rattle.worker_gate.proofs.SmallLemmas.{not_none, not_true, put_at, put_off, true_false}

pub same_number : (t : ℕ) → eqb t t ≡ true
same_number t = grind arith

-- no task but t is open
abbrev pub OnlyOpen : ℕ → State → Type 0
OnlyOpen t s = (w u : ℕ) → IsOpen s w u → u ≡ t

-- an entry closes its task
abbrev pub Closes : ℕ → Event → Type 0
Closes t (Arrive w u n) = u ≡ t
Closes t (End w u ns) = u ≡ t
Closes t (Clean w u) = u ≡ t
Closes t (Fail w u c ns) = u ≡ t
Closes t (Again w u c ns) = u ≡ t
Closes t _ = ⊥

runs_off : (f : ℕ → Phase) (u x : ℕ) (y : Phase) → (y ≡ Runs → ⊥) → put f u y x ≡ Runs → (eqb u x ≡ false) × (f x ≡ Runs)
runs_off f u x y never h = by_bool (eqb u x)
    (λ at. absurd (never (sym (ap (λ b. cond b y (f x)) at) ∙ h)))
    (λ off. (off, sym (put_off f u y x off) ∙ h))

ended_no : Ended ≡ Runs → ⊥
ended_no e = absurd cc

waits_no : Waits ≡ Runs → ⊥
waits_no e = absurd cc

failed_off : (f : ℕ → Bool) (u x : ℕ) → put f u true x ≡ false → (eqb u x ≡ false) × (f x ≡ false)
failed_off f u x h = by_bool (eqb u x)
    (λ at. absurd (true_false true refl (sym (ap (λ b. cond b true (f x)) at) ∙ h)))
    (λ off. (off, sym (put_off f u true x off) ∙ h))

not_that : (t u x : ℕ) → u ≡ t → x ≡ t → eqb u x ≡ false → ⊥
not_that t u x e f off = true_false (eqb u x) (subst (λ z. eqb u z ≡ true) (e ∙ sym f) (same_number u)) off

-- after the entry that closes the one open task no task is open
pub none_after : (p : Plan) (s : State) (t : ℕ) (e : Event) → OnlyOpen t s → Closes t e → NoneOpen (after p s e)
none_after p s t (Grant w u) only h = absurd h
none_after p s t (Regrant w u) only h = absurd h
none_after p s t (Arrive w u n) only h = λ v x o.
    let off = runs_off s.phase u x Ended ended_no o.runs in
    not_that t u x h (only v x (record { runs = off.1; holds = o.holds; no_fail = o.no_fail })) off.0
none_after p s t (End w u ns) only h = λ v x o.
    let off = runs_off s.phase u x Ended ended_no o.runs in
    not_that t u x h (only v x (record { runs = off.1; holds = o.holds; no_fail = o.no_fail })) off.0
none_after p s t (Clean w u) only h = λ v x o.
    let off = runs_off s.phase u x Ended ended_no o.runs in
    not_that t u x h (only v x (record { runs = off.1; holds = o.holds; no_fail = o.no_fail })) off.0
none_after p s t (Again w u c ns) only h = λ v x o.
    let off = runs_off s.phase u x Waits waits_no o.runs in
    not_that t u x h (only v x (record { runs = off.1; holds = o.holds; no_fail = o.no_fail })) off.0
none_after p s t (Fail w u c ns) only h = λ v x o.
    let off = failed_off s.failed u x o.no_fail in
    not_that t u x h (only v x (record { runs = o.runs; holds = o.holds; no_fail = off.1 })) off.0

-- no entry but a grant opens a task
pub still_open_arrive : (p : Plan) (s : State) (w t n v x : ℕ) → IsOpen (after p s (Arrive w t n)) v x → IsOpen s v x
still_open_arrive p s w t n v x o = record { runs = (runs_off s.phase t x Ended ended_no o.runs).1; holds = o.holds; no_fail = o.no_fail }

pub still_open_end : (p : Plan) (s : State) (w t : ℕ) (ns : List ℕ) (v x : ℕ) → IsOpen (after p s (End w t ns)) v x → IsOpen s v x
still_open_end p s w t ns v x o = record { runs = (runs_off s.phase t x Ended ended_no o.runs).1; holds = o.holds; no_fail = o.no_fail }

pub still_open_again : (p : Plan) (s : State) (w t : ℕ) (c : Cause) (ns : List ℕ) (v x : ℕ) → IsOpen (after p s (Again w t c ns)) v x → IsOpen s v x
still_open_again p s w t c ns v x o = record { runs = (runs_off s.phase t x Waits waits_no o.runs).1; holds = o.holds; no_fail = o.no_fail }

pub still_open_fail : (p : Plan) (s : State) (w t : ℕ) (c : Cause) (ns : List ℕ) (v x : ℕ) → IsOpen (after p s (Fail w t c ns)) v x → IsOpen s v x
still_open_fail p s w t c ns v x o = record { runs = o.runs; holds = o.holds; no_fail = (failed_off s.failed t x o.no_fail).1 }

pub none_only : (s : State) (t : ℕ) → NoneOpen s → OnlyOpen t s
none_only s t none w u o = absurd (none w u o)

pub done_closes : (w t : ℕ) (e : Event) → IsDone w t e → Closes t e
done_closes w t (Grant v u) h = absurd h
done_closes w t (Regrant v u) h = absurd h
done_closes w t (Clean v u) h = absurd h
done_closes w t (Arrive v u n) h = h.1
done_closes w t (End v u ns) h = h.1
done_closes w t (Fail v u c ns) h = h.1
done_closes w t (Again v u c ns) h = h.1

eqb_same : (t u : ℕ) → eqb t u ≡ true → u ≡ t
eqb_same t u h = grind (arith, h)

-- a grant opens its task, and no other one
only_granted : (s next : State) (w t : ℕ) → NoneOpen s → ((x : ℕ) → next.phase x ≡ put s.phase t Runs x) → ((x : ℕ) → next.holder x ≡ put s.holder t w x) → ((x : ℕ) → next.failed x ≡ s.failed x) → OnlyOpen t next
only_granted s next w t none phase holder failed v u o = by_bool (eqb t u)
    (λ at. eqb_same t u at)
    (λ off. absurd (none v u (record {
      runs = sym (phase u ∙ put_off s.phase t Runs u off) ∙ o.runs;
      holds = sym (holder u ∙ put_off s.holder t w u off) ∙ o.holds;
      no_fail = sym (failed u) ∙ o.no_fail;
    })))

pub granted_only : (p : Plan) (s : State) (w t : ℕ) → NoneOpen s → OnlyOpen t (after p s (Grant w t))
granted_only p s w t none = only_granted s (after p s (Grant w t)) w t none (λ x. refl) (λ x. refl) (λ x. refl)

-- where no Fail stands no task has failed
pub not_failed : (p : Plan) (s : State) (t : ℕ) → IsConsistent p s → s.failing ≡ false → s.failed t ≡ false
not_failed p s t consistent fine = not_true (s.failed t) (λ f. true_false s.failing (consistent.failed_fails t f) fine)

pub granted_open : (p : Plan) (s : State) (w t : ℕ) → IsConsistent p s → s.failing ≡ false → IsOpen (after p s (Grant w t)) w t
granted_open p s w t consistent fine = record {
  runs = put_at s.phase t Runs;
  holds = put_at s.holder t w;
  no_fail = not_failed p s t consistent fine;
}

-- where no task is open and no Fail stands, none runs
pub none_runs : (p : Plan) (s : State) → IsConsistent p s → NoneOpen s → s.failing ≡ false → IsIdle s
none_runs p s consistent none fine u runs = none (s.holder u) u (record { runs = runs; holds = refl; no_fail = not_failed p s u consistent fine })

-- then the Choice is the first of those that are left
first_of : (p : Plan) → HasLeaseLaws p → (s : State) (t : ℕ) (xs : List ℕ) → IsSafeState p s → IsIdle s → IsChoice p s t → s.rest ≡ xs → t ∷ [] ≡ take 1 xs
first_of p laws s t [] safe idle choice is = absurd (no_element choice.before t choice.later (sym choice.is ∙ is))
  where
    no_element : (before : List ℕ) (x : ℕ) (later : List ℕ) → before ++ x ∷ later ≡ [] → ⊥
    no_element [] x later e = absurd cc
    no_element (b ∷ before) x later e = absurd cc
first_of p laws s t (x ∷ xs) safe idle choice is = ap (λ y. y ∷ []) (laws.one_choice s t x choice (safe.choice x xs choice.no_fail idle is))

pub choice_first : (p : Plan) → HasLeaseLaws p → (s : State) (t : ℕ) → IsSafeState p s → IsConsistent p s → NoneOpen s → IsChoice p s t → t ∷ [] ≡ take 1 s.rest
choice_first p laws s t safe consistent none choice = first_of p laws s t s.rest safe (none_runs p s consistent none choice.no_fail) choice refl

-- and no fresh order begins
fresh_never : (p : Plan) (s : State) (t : ℕ) (xs : List ℕ) → IsSafeState p s → IsIdle s → IsFresh p s t → s.rest ≡ xs → ⊥
fresh_never p s t [] safe idle fresh is = subst (λ l. IsFreshAmong p s 4 l t) is fresh.among
fresh_never p s t (x ∷ xs) safe idle fresh is = fresh.no_choice x (safe.choice x xs fresh.no_fail idle is)

pub no_fresh : (p : Plan) (s : State) (t : ℕ) → IsSafeState p s → IsConsistent p s → NoneOpen s → IsFresh p s t → ⊥
no_fresh p s t safe consistent none fresh = fresh_never p s t s.rest safe (none_runs p s consistent none fresh.no_fail) fresh refl

has_kind : (p : Plan) (t : ℕ) → t < count_tasks p → kind p t ≡ None → ⊥
unfolding kind
has_kind p t l e = by (slice_get p.tasks t) refl e
  where
    by : (o : Option Task) → slice_get p.tasks t ≡ o → kind_in o ≡ None → ⊥
    by None is k = not_none p.tasks t l is
    by (Some x) is k = absurd cc

kind_loan : (k : Option TaskKind) → (k ≡ None → ⊥) → is_clean_kind k ≡ false → HasLoan k
kind_loan None some clean = absurd (some refl)
kind_loan (Some (Transfer f from to)) some clean = tt
kind_loan (Some (Run s js)) some clean = tt
kind_loan (Some (CleanTask q)) some clean = absurd cc

-- a task that runs has a loan
pub open_loan : (p q : Plan) (s : State) (t : ℕ) → p ≡ q → IsSoundState p s → s.phase t ≡ Runs → HasLoan (kind q t)
open_loan p q s t same sound runs =
    let is = sound.running_kind t runs in
    subst (λ z. HasLoan (kind z t)) same (kind_loan (kind p t) (has_kind p t is.1) is.0)

pub step_one : (p : Plan) (s : State) (r : List Event) (e : Event) → now_from p s (r ++ e ∷ []) ≡ after p (now_from p s r) e
step_one p s [] e = refl
step_one p s (f ∷ r) e = step_one p (after p s f) r e

pub now_split : (p : Plan) (s : State) (r xs : List Event) → now_from p s (r ++ xs) ≡ now_from p (now_from p s r) xs
now_split p s [] xs = refl
now_split p s (e ∷ r) xs = now_split p (after p s e) r xs

pub legal_split : (p : Plan) (s : State) (r xs : List Event) → LegalFrom p s (r ++ xs) → LegalFrom p (now_from p s r) xs
legal_split p s [] xs l = l
legal_split p s (e ∷ r) xs l = legal_split p (after p s e) r xs l.1

-- each entry leaves room for one less
pub room_after : (p : Plan) → HasLeaseLaws p → (s : State) (xs : List Event) → IsConsistent p s → LegalFrom p s xs → entries_room p (now_from p s xs) + length xs ≤ entries_room p s
room_after p laws s [] consistent l = omega arith
room_after p laws s (e ∷ xs) consistent l =
    let one = laws.room_falls s e consistent l.0 in
    let rest = room_after p laws (after p s e) xs (laws.consistent s e consistent l.0) l.1 in
    omega (arith, one, rest)

pub first_append : (p : Plan) (s : State) (xs ys : List Event) → TakeFirst p s xs → TakeFirst p (now_from p s xs) ys → TakeFirst p s (xs ++ ys)
first_append p s [] ys a b = b
first_append p s (e ∷ xs) ys a b = (a.0, first_append p (after p s e) xs ys a.1 b)
