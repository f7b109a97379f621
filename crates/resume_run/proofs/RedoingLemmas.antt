-- The open tasks, done one after the other.
use Rattle.std.proofs.Common.{◌≡◌, ◌≢◌, ℕ, zero, suc, ◌+◌, ◌<◌, ◌≤◌, Bool, true, false, ◌&&◌, cond, eqb, not, List, [], ◌∷◌, ◌++◌, length, drop, refl, sym, ap, subst, ◌∙◌, arith, inl, inr, length-append, append_assoc}
use Rattle.std.proofs.Math.Logic.{∥∥₁_elim}
use Rattle.std.proofs.Props.{props}
use Rattle.std.proofs.lemmas.List.{append-nil}
use Rattle.std.specs.Prelude.{Option, Some, None, slice_get}
use Rattle.plan_core.specs.declared.plan.Plan.{Plan}
use Rattle.plan_core.specs.Words.{count_tasks, task_numbers}
use Rattle.plan_core.proofs.TestLemmas.{by_bool, is_itself, not_itself}
use Rattle.storage_simulation.specs.declared.ordered.Ordered.{Ordered}
use Rattle.storage_simulation.specs.declared.standing.Phase.{Phase}
use Rattle.storage_simulation.specs.declared.standing.Phase.TheVariants.{Ended, Runs, Waits}
use Rattle.run_record.specs.Events.{Event, Grant, Arrive, End, Clean, Fail, Again, Regrant}
use Rattle.lease_book.specs.declared.book.Book.{Book}
use Rattle.lease_book.specs.Book.{state_at}
use Rattle.lease_rules.specs.Legal.{IsOpen}
use Rattle.lease_rules.specs.code.Reading.{is_fail}
use Rattle.lease_rules.specs.State.{State, after, now, opened, put}
use Rattle.lease_rules.specs.code.State.{runs}
use Rattle.record_audit.proofs.LawLemmas.{now_more}
use Rattle.worker_gate.specs.code.Alone.{NoneOpen}
use Rattle.worker_gate.specs.code.Tending.{IsDone}
use Rattle.plan_run.specs.Moments.{MemberMoment}
use Rattle.resume_run.specs.declared.lost.Lost.{Lost}
use Rattle.resume_run.specs.Lost.{lost_below, lost_of, owner}
use Rattle.resume_run.specs.Redoing.{AddsFaults, AreDone, EndAtFail, HasRisen, Redoes, RedoesOne}
use Rattle.resume_run.proofs.FaultsLemmas.{counts_more, counts_none}
use Rattle.resume_run.proofs.LostLemmas.{few_from, opened_for, owner_found}
use Rattle.site_yard.specs.code.Failures.{tool_faults}

-- ---- lists

nil_cons : {A : Type 0} (x : A) (xs : List A) → [] ≡ x ∷ xs → ⊥
nil_cons x xs e = absurd cc

first_one : {A : Type 0} (x y : A) (xs ys : List A) → x ∷ xs ≡ y ∷ ys → x ≡ y
first_one x y xs ys e = cc

other_ones : {A : Type 0} (x y : A) (xs ys : List A) → x ∷ xs ≡ y ∷ ys → xs ≡ ys
other_ones x y xs ys e = cc

same_some : {A : Type 0} (x y : A) → Some x ≡ Some y → x ≡ y
same_some x y e = cc

none_some : {A : Type 0} (x : A) → None ≡ Some x → ⊥
none_some x e = absurd cc

append_none : {A : Type 0} (xs ys : List A) → xs ++ ys ≡ [] → (xs ≡ []) × (ys ≡ [])
append_none [] ys e = (refl, e)
append_none (x ∷ xs) ys e = absurd cc

off_on : (b : Bool) → b ≡ false → b ≡ true → ⊥
off_on b off on = (let e : false ≡ true = sym off ∙ on in absurd cc)

-- ---- the worker of a task, and who it is after an entry

owner_opens : (s : State) (w t : ℕ) → owner s t ≡ Some w → IsOpen s w t
owner_opens s w t is = by_bool (runs (s.phase t))
    (λ on. by_bool (s.failed t)
    (λ bad. absurd (none_some w (sym (ap (λ b. cond (b && not (s.failed t)) (Some (s.holder t)) None) on ∙ ap (λ b. cond (not b) (Some (s.holder t)) None) bad) ∙ is)))
    (λ fine. subst (λ v. IsOpen s v t) (same_some (s.holder t) w (owner_found s (s.holder t) t (opened_for s t on fine) ∙ is)) (opened_for s t on fine)))
    (λ off. absurd (none_some w (sym (ap (λ b. cond (b && not (s.failed t)) (Some (s.holder t)) None) off) ∙ is)))

-- the task is open for no worker, and all others for those for whom they were
record Closes (s next : State) (t : ℕ) : Type 0 where
  none : owner next t ≡ None
  others : (u : ℕ) → eqb t u ≡ false → owner next u ≡ owner s u

stopped : (s next : State) (t : ℕ) (x : Phase) → runs x ≡ false → next.phase ≡ put s.phase t x → next.holder ≡ s.holder → next.failed ≡ s.failed → Closes s next t
stopped s next t x off phase holder failed = record {
  none = ap (λ (f : ℕ → Phase). cond (runs (f t) && not (next.failed t)) (Some (next.holder t)) None) phase
      ∙ ap (λ b. cond (runs (cond b x (s.phase t)) && not (next.failed t)) (Some (next.holder t)) None) (is_itself t)
      ∙ ap (λ b. cond (b && not (next.failed t)) (Some (next.holder t)) None) off;
  others = λ u other. ap (λ (f : ℕ → Phase). cond (runs (f u) && not (next.failed u)) (Some (next.holder u)) None) phase
      ∙ ap (λ b. cond (runs (cond b x (s.phase u)) && not (next.failed u)) (Some (next.holder u)) None) other
      ∙ ap (λ (f : ℕ → Bool). cond (runs (s.phase u) && not (f u)) (Some (next.holder u)) None) failed
      ∙ ap (λ (f : ℕ → ℕ). cond (runs (s.phase u) && not (s.failed u)) (Some (f u)) None) holder;
}

and_false : (b : Bool) → (b && false) ≡ false
and_false true = refl
and_false false = refl

fallen : (s next : State) (t : ℕ) → next.phase ≡ s.phase → next.holder ≡ s.holder → next.failed ≡ put s.failed t true → Closes s next t
fallen s next t phase holder failed = record {
  none = ap (λ (f : ℕ → Bool). cond (runs (next.phase t) && not (f t)) (Some (next.holder t)) None) failed
      ∙ ap (λ b. cond (runs (next.phase t) && not (cond b true (s.failed t))) (Some (next.holder t)) None) (is_itself t)
      ∙ ap (λ b. cond b (Some (next.holder t)) None) (and_false (runs (next.phase t)));
  others = λ u other. ap (λ (f : ℕ → Bool). cond (runs (next.phase u) && not (f u)) (Some (next.holder u)) None) failed
      ∙ ap (λ b. cond (runs (next.phase u) && not (cond b true (s.failed u))) (Some (next.holder u)) None) other
      ∙ ap (λ (f : ℕ → Phase). cond (runs (f u) && not (s.failed u)) (Some (next.holder u)) None) phase
      ∙ ap (λ (f : ℕ → ℕ). cond (runs (s.phase u) && not (s.failed u)) (Some (f u)) None) holder;
}

done_closes : (p : Plan) (s : State) (w t : ℕ) (e : Event) → IsDone w t e → Closes s (after p s e) t
done_closes p s w t (Grant v u) h = absurd h
done_closes p s w t (Regrant v u) h = absurd h
done_closes p s w t (Clean v u) h = absurd h
done_closes p s w t (Arrive v u n) h = subst (Closes s (after p s (Arrive v u n))) h.1 (stopped s (after p s (Arrive v u n)) u Ended refl refl refl refl)
done_closes p s w t (End v u ns) h = subst (Closes s (after p s (End v u ns))) h.1 (stopped s (after p s (End v u ns)) u Ended refl refl refl refl)
done_closes p s w t (Again v u c ns) h = subst (Closes s (after p s (Again v u c ns))) h.1 (stopped s (after p s (Again v u c ns)) u Waits refl refl refl refl)
done_closes p s w t (Fail v u c ns) h = subst (Closes s (after p s (Fail v u c ns))) h.1 (fallen s (after p s (Fail v u c ns)) u refl refl refl)

-- ---- the first of the open tasks

record IsFirst (s : State) (n : ℕ) (l : Lost) : Type 0 where
  low : l.task.0 < n
  owned : owner s l.task.0 ≡ Some l.worker

first_step : (s : State) (n : ℕ) (l : Lost) (rest ys : List Lost) (o : Option ℕ) → ((zs : List Lost) → lost_below s n ≡ l ∷ zs → IsFirst s n l) → lost_below s n ≡ ys → owner s n ≡ o → ys ++ lost_of n o ≡ l ∷ rest → IsFirst s (suc n) l
first_step s n l rest [] None before none at is = absurd (nil_cons l rest is)
first_step s n l rest [] (Some w) before none at is =
    subst (IsFirst s (suc n)) (first_one (record { worker = w; task = record { 0 = n } }) l [] rest is) (record { low = omega arith; owned = at })
first_step s n l rest (y ∷ ys) o before some at is =
    let f = before ys (some ∙ ap (λ (z : Lost). z ∷ ys) (first_one y l (ys ++ lost_of n o) rest is)) in
    let low : l.task.0 < n = f.low in
    record { low = omega (arith, low); owned = f.owned }

first_is : (s : State) (n : ℕ) (l : Lost) (rest : List Lost) → lost_below s n ≡ l ∷ rest → IsFirst s n l
unfolding lost_below
first_is s zero l rest is = absurd (nil_cons l rest is)
first_is s (suc n) l rest is = first_step s n l rest (lost_below s n) (owner s n) (first_is s n l) refl refl is

pub first_open : (s : State) (n : ℕ) (l : Lost) (rest : List Lost) → lost_below s n ≡ l ∷ rest → IsOpen s l.worker l.task.0
first_open s n l rest is = owner_opens s l.worker l.task.0 (first_is s n l rest is).owned

-- ---- the others are left once it is closed

same_below : (s next : State) (t n : ℕ) → Closes s next t → n ≤ t → lost_below next n ≡ lost_below s n
unfolding lost_below
same_below s next t zero closes le = refl
same_below s next t (suc n) closes le =
    let ne : t ≢ n = omega (arith, le) in
    ap (λ l. l ++ lost_of n (owner next n)) (same_below s next t n closes (omega (arith, le)))
    ∙ ap (λ o. lost_below s n ++ lost_of n o) (closes.others n (not_itself t n ne))

left_step : (s next : State) (n : ℕ) (l : Lost) (rest ys : List Lost) (o : Option ℕ) → ((zs : List Lost) → lost_below s n ≡ l ∷ zs → lost_below next n ≡ zs) → ((zs : List Lost) → lost_below s n ≡ l ∷ zs → IsFirst s n l) → lost_below s n ≡ ys → owner s n ≡ o → ys ++ lost_of n o ≡ l ∷ rest → Closes s next l.task.0
    → lost_below next n ++ lost_of n (owner next n) ≡ rest
left_step s next n l rest [] None before first none at is closes = absurd (nil_cons l rest is)
left_step s next n l rest [] (Some w) before first none at is closes =
    let here : record { worker = w; task = record { 0 = n } } ≡ l = first_one (record { worker = w; task = record { 0 = n } }) l [] rest is in
    let task : n ≡ l.task.0 = ap (λ (x : Lost). x.task.0) here in
    ap (λ zs. zs ++ lost_of n (owner next n)) (same_below s next l.task.0 n closes (omega (arith, task)) ∙ none)
    ∙ ap (lost_of n) (ap (owner next) task ∙ closes.none)
    ∙ other_ones (record { worker = w; task = record { 0 = n } }) l [] rest is
left_step s next n l rest (y ∷ ys) o before first some at is closes =
    let more : lost_below s n ≡ l ∷ ys = some ∙ ap (λ (z : Lost). z ∷ ys) (first_one y l (ys ++ lost_of n o) rest is) in
    let low : l.task.0 < n = (first ys more).low in
    let ne : l.task.0 ≢ n = omega (arith, low) in
    ap (λ zs. zs ++ lost_of n (owner next n)) (before ys more)
    ∙ ap (λ x. ys ++ lost_of n x) (closes.others n (not_itself l.task.0 n ne) ∙ at)
    ∙ other_ones y l (ys ++ lost_of n o) rest is

left_after : (s next : State) (n : ℕ) (l : Lost) (rest : List Lost) → lost_below s n ≡ l ∷ rest → Closes s next l.task.0 → lost_below next n ≡ rest
unfolding lost_below
left_after s next zero l rest is closes = absurd (nil_cons l rest is)
left_after s next (suc n) l rest is closes =
    left_step s next n l rest (lost_below s n) (owner s n) (λ zs more. left_after s next n l zs more closes) (first_is s n l) refl refl is closes

-- ---- where none is left

none_of : (t : ℕ) (o : Option ℕ) → lost_of t o ≡ [] → o ≡ None
none_of t None e = refl
none_of t (Some w) e = absurd cc

none_owned : (s : State) (n t : ℕ) → lost_below s n ≡ [] → t < n → owner s t ≡ None
unfolding lost_below
none_owned s zero t is l = absurd (omega (arith, l))
none_owned s (suc n) t is l =
    let both = append_none (lost_below s n) (lost_of n (owner s n)) is in
    by_bool (eqb t n)
    (λ at. let e : t ≡ n = grind (arith, at) in subst (λ x. owner s x ≡ None) (sym e) (none_of n (owner s n) both.1))
    (λ off. none_owned s n t both.0 (grind (arith, off, l)))

-- ---- entries

at_end : (r : List Event) (e : Event) → slice_get (r ++ e ∷ []) (length r) ≡ Some e
at_end [] e = refl
at_end (x ∷ r) e = at_end r e

pub last_is : (all r : List Event) (e f : Event) (k : ℕ) → all ≡ r ++ e ∷ [] → slice_get all k ≡ Some f → k + 1 ≡ length all → f ≡ e
last_is all r e f k is at end =
    let longs = ap length is in
    let long = length-append r (e ∷ []) in
    let same : k ≡ length r = omega (arith, longs, long, end) in
    same_some f e (sym at ∙ ap (λ (l : List Event). slice_get l k) is ∙ ap (λ n. slice_get (r ++ e ∷ []) n) same ∙ at_end r e)

done_more : (lost : List Lost) (added : List Event) (l : Lost) (rest : List Lost) (e : Event) → drop (length added) lost ≡ l ∷ rest → AreDone lost added → IsDone l.worker l.task.0 e → AreDone lost (added ++ e ∷ [])
done_more [] [] l rest e at done last = absurd (nil_cons l rest at)
done_more (m ∷ lost) [] l rest e at done last = (subst (λ (x : Lost). IsDone x.worker x.task.0 e) (sym (first_one m l lost rest at)) last, tt)
done_more [] (f ∷ added) l rest e at done last = absurd done
done_more (m ∷ lost) (f ∷ added) l rest e at done last = (done.0, done_more lost added l rest e at done.1 last)

-- none of them is a Fail
abbrev pub NoFails : List Event → Type 0
NoFails [] = Unit {0}
NoFails (e ∷ r) = (is_fail e ≡ false) × NoFails r

fine_more : (r : List Event) (e : Event) → NoFails r → is_fail e ≡ false → NoFails (r ++ e ∷ [])
fine_more [] e fine off = (off, tt)
fine_more (f ∷ r) e fine off = (fine.0, fine_more r e fine.1 off)

fine_ends : (r : List Event) → NoFails r → EndAtFail r
fine_ends [] fine = tt
fine_ends (f ∷ r) fine = (λ on. absurd (off_on (is_fail f) fine.0 on), fine_ends r fine.1)

last_ends : (r : List Event) (e : Event) → NoFails r → EndAtFail (r ++ e ∷ [])
last_ends [] e fine = (λ on. refl, tt)
last_ends (f ∷ r) e fine = (λ on. absurd (off_on (is_fail f) fine.0 on), last_ends r e fine.1)

fail_stands : (p : Plan) (s : State) (e : Event) → is_fail e ≡ true → (after p s e).failing ≡ true
fail_stands p s (Fail w t c ns) on = refl
fail_stands p s (Grant w t) on = absurd cc
fail_stands p s (Regrant w t) on = absurd cc
fail_stands p s (Arrive w t n) on = absurd cc
fail_stands p s (End w t ns) on = absurd cc
fail_stands p s (Clean w t) on = absurd cc
fail_stands p s (Again w t c ns) on = absurd cc

-- ---- books of an order

pub state_of : (b : Book) (o : Ordered) → b.plan ≡ o.plan → b.order.items ≡ o.tasks.items → state_at b ≡ now o.plan (task_numbers o.tasks.items) b.history.events
state_of b o plan order =
    ap (λ (q : Plan). now q (task_numbers b.order.items) b.history.events) plan
    ∙ ap (λ ts. now o.plan (task_numbers ts) b.history.events) order

-- a task that runs is one of the plan's, and its worker one of the sixteen
running_low : (b : Book) (t : ℕ) → (state_at b).phase t ≡ Runs → t < count_tasks b.plan
running_low b t run = (b.kept.consistent.sound.running_kind t (b.kept.same.phase t ∙ run)).1

waits_other : Waits ≡ Runs → ⊥
waits_other e = absurd cc

pub worker_low : (b : Book) (w t : ℕ) → IsOpen (state_at b) w t → w < 16
worker_low b w t o = ∥∥₁_elim b.kept.legal (hlevel props) (λ legal.
    subst (λ v. v < 16) o.holds (few_from b.plan (opened (task_numbers b.order.items)) b.history.events (λ u run. absurd (waits_other run)) legal t o.runs))

none_open : (b : Book) → lost_below (state_at b) (count_tasks b.plan) ≡ [] → NoneOpen (state_at b)
none_open b none w t o = none_some w (sym (none_owned (state_at b) (count_tasks b.plan) t none (running_low b t o.runs)) ∙ sym (owner_found (state_at b) w t o))

-- ---- the tasks that were done so far

-- The first k of the lost tasks were done by what is added after a record r, none of it a Fail, and the others are open.
pub record HasRedone (p : Plan) (order : List ℕ) (r after : List Event) (lost : List Lost) (k : ℕ) (before later : List MemberMoment) : Type 0 where
  pub added : List Event
  pub is : after ≡ r ++ added
  pub done : AreDone lost added
  pub fine : NoFails added
  pub many : length added ≡ k
  pub left : drop k lost ≡ lost_below (now p order after) (count_tasks p)
  pub counted : (j : ℕ) → HasRisen j (tool_faults j added) before later

drop_none : (xs : List Lost) → drop 0 xs ≡ xs
drop_none [] = refl
drop_none (x ∷ xs) = refl

pub redone_none : (p : Plan) (order : List ℕ) (r : List Event) (lost : List Lost) (ms : List MemberMoment) → lost ≡ lost_below (now p order r) (count_tasks p) → HasRedone p order r r lost 0 ms ms
redone_none p order r lost ms is = record {
  added = [];
  is = sym (append-nil r);
  done = tt;
  fine = tt;
  many = refl;
  left = drop_none lost ∙ is;
  counted = λ j. counts_none j ms;
}

-- one more, by which a Fail was added or not
module _ (p : Plan) (order : List ℕ) (r mid after_ : List Event) (lost : List Lost) (k : ℕ) (l : Lost) (rest : List Lost) (before here later : List MemberMoment) (fails : Bool) (so : HasRedone p order r mid lost k before here) (one : RedoesOne l mid after_ here later fails) (at : drop k lost ≡ l ∷ rest) where
  state_is : now p order after_ ≡ after p (now p order mid) one.entry
  state_is = ap (now p order) one.is ∙ now_more p (opened order) mid one.entry

  is_all : after_ ≡ r ++ (so.added ++ one.entry ∷ [])
  is_all = one.is ∙ ap (λ es. es ++ one.entry ∷ []) so.is ∙ append_assoc r so.added (one.entry ∷ [])

  done_all : AreDone lost (so.added ++ one.entry ∷ [])
  done_all = done_more lost so.added l rest one.entry (ap (λ n. drop n lost) so.many ∙ at) so.done one.done

  counted_all : (j : ℕ) → HasRisen j (tool_faults j (so.added ++ one.entry ∷ [])) before later
  counted_all j = counts_more j so.added one.entry before here later (so.counted j) (one.counted j)

  pub redone_more : drop (k + 1) lost ≡ rest → fails ≡ false → HasRedone p order r after_ lost (k + 1) before later
  redone_more next off = record {
    added = so.added ++ one.entry ∷ [];
    is = is_all;
    done = done_all;
    fine = fine_more so.added one.entry so.fine (sym one.fails_is ∙ off);
    many = let long = length-append so.added (one.entry ∷ []) in let many = so.many in omega (arith, long, many);
    left = next ∙ sym (ap (λ s. lost_below s (count_tasks p)) state_is ∙ left_after (now p order mid) (after p (now p order mid) one.entry) (count_tasks p) l rest (sym so.left ∙ at) (done_closes p (now p order mid) l.worker l.task.0 one.entry one.done));
    counted = counted_all;
  }

  pub redone_fails : fails ≡ true → Redoes p order r after_ lost
  redone_fails on =
      let stands : (now p order after_).failing ≡ true = ap (λ (s : State). s.failing) state_is ∙ fail_stands p (now p order mid) one.entry (sym one.fails_is ∙ on) in
      record {
        added = so.added ++ one.entry ∷ [];
        is = is_all;
        done = done_all;
        stops = last_ends so.added one.entry so.fine;
        over = inr stands;
        all = λ fine. absurd (off_on (now p order after_).failing fine stands);
      }

  pub faults_fails : AddsFaults r after_ before later
  faults_fails = record { added = so.added ++ one.entry ∷ []; is = is_all; counted = counted_all }

-- all of them
nothing_left : (xs : List Lost) (k : ℕ) → length xs ≤ k → drop k xs ≡ []
nothing_left [] zero le = refl
nothing_left [] (suc k) le = refl
nothing_left (x ∷ xs) zero le = absurd (omega (arith, le))
nothing_left (x ∷ xs) (suc k) le = nothing_left xs k (omega (arith, le))

done_few : (lost : List Lost) (added : List Event) → AreDone lost added → length added ≤ length lost
done_few lost [] done = omega arith
done_few [] (e ∷ added) done = absurd done
done_few (l ∷ lost) (e ∷ added) done = let rest = done_few lost added done.1 in omega (arith, rest)

pub redone_all : (b : Book) (o : Ordered) (r : List Event) (lost : List Lost) (k : ℕ) (before later : List MemberMoment) → b.plan ≡ o.plan → b.order.items ≡ o.tasks.items → length lost ≤ k → HasRedone o.plan (task_numbers o.tasks.items) r b.history.events lost k before later
    → Redoes o.plan (task_numbers o.tasks.items) r b.history.events lost
redone_all b o r lost k before later plan order end so =
    let here = state_of b o plan order in
    let none : lost_below (state_at b) (count_tasks b.plan) ≡ [] = ap (λ s. lost_below s (count_tasks b.plan)) here ∙ ap (λ (q : Plan). lost_below (now o.plan (task_numbers o.tasks.items) b.history.events) (count_tasks q)) plan ∙ sym so.left ∙ nothing_left lost k end in
    let many = so.many in
    let few = done_few lost so.added so.done in
    record {
      added = so.added;
      is = so.is;
      done = so.done;
      stops = fine_ends so.added so.fine;
      over = inl (subst NoneOpen here (none_open b none));
      all = λ fine. omega (arith, many, few, end);
    }

pub faults_all : (p : Plan) (order : List ℕ) (r after_ : List Event) (lost : List Lost) (k : ℕ) (before later : List MemberMoment) → HasRedone p order r after_ lost k before later → AddsFaults r after_ before later
faults_all p order r after_ lost k before later so = record { added = so.added; is = so.is; counted = so.counted }

-- what comes next is open
pub next_open : (b : Book) (o : Ordered) (r : List Event) (lost : List Lost) (k : ℕ) (l : Lost) (rest : List Lost) (before later : List MemberMoment) → b.plan ≡ o.plan → b.order.items ≡ o.tasks.items → HasRedone o.plan (task_numbers o.tasks.items) r b.history.events lost k before later → drop k lost ≡ l ∷ rest → IsOpen (state_at b) l.worker l.task.0
next_open b o r lost k l rest before later plan order so at =
    subst (λ s. IsOpen s l.worker l.task.0) (sym (state_of b o plan order)) (first_open (now o.plan (task_numbers o.tasks.items) b.history.events) (count_tasks o.plan) l rest (sym so.left ∙ at))

-- what stands where there is no task
abbrev pub nobody : Lost
nobody = record { worker = 0; task = record { 0 = 0 } }
