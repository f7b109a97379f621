-- The work after the open tasks are done: by the first worker alone, or none where a Fail stands.
use Rattle.std.proofs.Common.{◌≡◌, ◌⊎◌, ℕ, ◌+◌, ◌<◌, ◌≤◌, Bool, true, false, cond, eqb, get_or, List, [], ◌∷◌, ◌++◌, length, map, refl, sym, ap, subst, ◌∙◌, inl, inr, arith, append_assoc, drop}
use Rattle.std.specs.Prelude.{slice_set}
use Rattle.std.proofs.Math.Seq.{drop-append_seam}
use Rattle.std.proofs.lemmas.List.{append-nil}
use Rattle.plan_core.specs.declared.plan.Plan.{Plan}
use Rattle.plan_core.specs.Words.{count_tasks, task_numbers}
use Rattle.plan_core.proofs.TestLemmas.{by_bool}
use Rattle.values.specs.declared.numbers.TaskId.{TaskId}
use Rattle.run_record.specs.Events.{Event, Grant, Arrive, End, Clean, Fail, Again, Regrant}
use Rattle.lease_book.specs.declared.book.Book.{Book}
use Rattle.lease_book.specs.Book.{state_at}
use Rattle.lease_rules.specs.Owning.{worker}
use Rattle.lease_rules.specs.State.{State, now}
use Rattle.site_yard.specs.code.Failures.{RoseBy, tool_fault_in, tool_faults, tool_faults_of}
use Rattle.worker_gate.specs.code.Alone.{AllBy, NoneOpen, TakeFirst, WorksAlone}
use Rattle.plan_run.specs.Moments.{MemberMoment}
use Rattle.plan_run.specs.code.Moments.{count_of}
use Rattle.resume_run.specs.declared.lost.Lost.{Lost}
use Rattle.resume_run.specs.Lost.{lost_below}
use Rattle.resume_run.specs.Redoing.{AddsFaults, AreDone, EndAtFail, HasRisen, Redoes}
use Rattle.resume_run.specs.Working.{WorksOn}
use Rattle.resume_run.proofs.FaultsLemmas.{count_here, count_other, count_set, risen_both, stays, turned}

-- an entry of worker 0 counts for no other one's tool
of_other : (k : ℕ) (e : Event) → worker e ≡ 0 → eqb 0 k ≡ false → tool_faults_of k e ≡ 0
of_other k (Grant v u) h off = refl
of_other k (Regrant v u) h off = refl
of_other k (Clean v u) h off = refl
of_other k (Arrive v u n) h off = refl
of_other k (End v u ns) h off = refl
of_other k (Fail v u c ns) h off = ap (λ (b : Bool). cond b (tool_fault_in c) 0) (ap (eqb k) h ∙ turned 0 k off)
of_other k (Again v u c ns) h off = ap (λ (b : Bool). cond b (tool_fault_in c) 0) (ap (eqb k) h ∙ turned 0 k off)

alone_faults : (k : ℕ) (r : List Event) → AllBy 0 r → eqb 0 k ≡ false → tool_faults k r ≡ 0
unfolding tool_faults
alone_faults k [] h off = refl
alone_faults k (e ∷ r) h off = let here = of_other k e h.0 off in let rest = alone_faults k r h.1 off in omega (arith, here, rest)

faults_append : (w : ℕ) (r s : List Event) → tool_faults w (r ++ s) ≡ tool_faults w r + tool_faults w s
unfolding tool_faults
faults_append w [] s = omega arith
faults_append w (e ∷ r) s = let rest = faults_append w r s in omega (arith, rest)

-- the first member's tool was used, by worker 0's entries
pub first_counts : {A : Type 0} (shown : A → MemberMoment) (crew : List A) (old new : A) (r : List Event) → 0 < length crew → old ≡ get_or crew 0 old → AllBy 0 r → (shown old).faults ≤ (shown new).faults → RoseBy (tool_faults 0 r) (shown old).faults (shown new).faults
    → (k : ℕ) → HasRisen k (tool_faults k r) (map shown crew) (map shown (slice_set crew 0 new))
first_counts shown crew old new r l is by le rose k = by_bool (eqb 0 k)
    (λ at. let same : 0 ≡ k = grind (arith, at) in
    subst (λ j. HasRisen j (tool_faults j r) (map shown crew) (map shown (slice_set crew 0 new))) same
    (subst (λ a. (a ≤ count_of (map shown (slice_set crew 0 new)) 0) × RoseBy (tool_faults 0 r) a (count_of (map shown (slice_set crew 0 new)) 0)) (sym (count_here shown crew 0 old l is))
    (subst (λ b. ((shown old).faults ≤ b) × RoseBy (tool_faults 0 r) (shown old).faults b) (sym (count_set shown crew 0 new l)) (le, rose))))
    (λ off. stays shown (tool_faults k r) (count_of (map shown crew) k) (count_of (map shown (slice_set crew 0 new)) k) (alone_faults k r by off) (count_other shown crew 0 k new off))

-- what two calls say was added to one record is the same
same_added : (r after a b : List Event) → after ≡ r ++ a → after ≡ r ++ b → a ≡ b
same_added r after a b h k = sym (drop-append_seam r a) ∙ ap (drop (length r)) (sym h ∙ k) ∙ drop-append_seam r b

-- the entries of the lost tasks
redone_so : (p : Plan) (order : List ℕ) (r mid : List Event) (before m : List MemberMoment) (lost : List Lost) (faults : AddsFaults r mid before m) → Redoes p order r mid lost → lost ≡ lost_below (now p order r) (count_tasks p)
    → AreDone (lost_below (now p order r) (count_tasks p)) faults.added
redone_so p order r mid before m lost faults redoes is =
    subst (λ (ls : List Lost). AreDone ls faults.added) is (subst (AreDone lost) (same_added r mid redoes.added faults.added redoes.is faults.is) redoes.done)

-- of which a Fail is the last
stops_so : (r mid : List Event) (before m : List MemberMoment) (lost : List Lost) (p : Plan) (order : List ℕ) (faults : AddsFaults r mid before m) → Redoes p order r mid lost → EndAtFail faults.added
stops_so r mid before m lost p order faults redoes = subst EndAtFail (same_added r mid redoes.added faults.added redoes.is faults.is) redoes.stops

-- what was added before, and then by worker 0 alone
pub works_then : (p : Plan) (order : List ℕ) (r mid after : List Event) (before m later : List MemberMoment) (x y : ℕ) (lost : List Lost) → AddsFaults r mid before m → Redoes p order r mid lost → lost ≡ lost_below (now p order r) (count_tasks p) → (now p order mid).failing ≡ false → (alone : WorksAlone p order mid after x y) → ((k : ℕ) → HasRisen k (tool_faults k alone.added) m later) → WorksOn p order r after before later
works_then p order r mid after before m later x y lost faults redoes all fine alone risen = record {
  added = faults.added ++ alone.added;
  is = alone.is ∙ ap (λ l. l ++ alone.added) faults.is ∙ append_assoc r faults.added alone.added;
  in_order = record {
    redone = faults.added;
    later = alone.added;
    parts = refl;
    done = redone_so p order r mid before m lost faults redoes all;
    stops = stops_so r mid before m lost p order faults redoes;
    goes_on = inr (record {
      all = ap length (same_added r mid faults.added redoes.added faults.is redoes.is) ∙ redoes.all fine ∙ ap length all;
      unfailing = ap (λ (l : List Event). (now p order l).failing) (sym faults.is) ∙ fine;
    });
    by_zero = alone.by_zero;
    first = subst (λ (l : List Event). TakeFirst p (now p order l) alone.added) faults.is alone.first;
  };
  over = alone.over;
  tools = λ k l.
      let both = risen_both (tool_faults k faults.added) (tool_faults k alone.added) (count_of before k) (count_of m k) (count_of later k) (faults.counted k) (risen k) in
      subst (λ n. RoseBy n (count_of before k) (count_of later k)) (sym (faults_append k faults.added alone.added)) both.1;
}

-- a Fail stands, and nothing more is done
pub works_stopped : (p : Plan) (order : List ℕ) (r after : List Event) (before later : List MemberMoment) (lost : List Lost) → AddsFaults r after before later → Redoes p order r after lost → lost ≡ lost_below (now p order r) (count_tasks p) → (now p order after).failing ≡ true → WorksOn p order r after before later
works_stopped p order r after before later lost faults redoes all failing = record {
  added = faults.added;
  is = faults.is;
  in_order = record {
    redone = faults.added;
    later = [];
    parts = sym (append-nil faults.added);
    done = redone_so p order r after before later lost faults redoes all;
    stops = stops_so r after before later lost p order faults redoes;
    goes_on = inl refl;
    by_zero = tt;
    first = tt;
  };
  over = inr failing;
  tools = λ k l. (faults.counted k).1;
}

-- the state that a book shows
state_is : (b : Book) (p : Plan) (ts : List TaskId) → b.plan ≡ p → b.order.items ≡ ts → state_at b ≡ now p (task_numbers ts) b.history.events
state_is b p ts plan order = ap (λ (q : Plan). now q (task_numbers b.order.items) b.history.events) plan ∙ ap (λ (xs : List TaskId). now p (task_numbers xs) b.history.events) order

-- and the tasks that are open in it
pub lost_in : (b : Book) (p : Plan) (ts : List TaskId) (lost : List Lost) → b.plan ≡ p → b.order.items ≡ ts → lost ≡ lost_below (state_at b) (count_tasks p) → lost ≡ lost_below (now p (task_numbers ts) b.history.events) (count_tasks p)
lost_in b p ts lost plan order all = all ∙ ap (λ (s : State). lost_below s (count_tasks p)) (state_is b p ts plan order)

pub failing_in : (b : Book) (p : Plan) (ts : List TaskId) → b.plan ≡ p → b.order.items ≡ ts → (state_at b).failing ≡ true → (now p (task_numbers ts) b.history.events).failing ≡ true
failing_in b p ts plan order h = sym (ap (λ (s : State). s.failing) (state_is b p ts plan order)) ∙ h

pub unfailing_in : (b : Book) (p : Plan) (ts : List TaskId) → b.plan ≡ p → b.order.items ≡ ts → (state_at b).failing ≡ false → (now p (task_numbers ts) b.history.events).failing ≡ false
unfailing_in b p ts plan order h = sym (ap (λ (s : State). s.failing) (state_is b p ts plan order)) ∙ h

pub none_open_in : (b : Book) (p : Plan) (ts : List TaskId) → b.plan ≡ p → b.order.items ≡ ts → (state_at b).failing ≡ false → NoneOpen (now p (task_numbers ts) b.history.events) ⊎ ((now p (task_numbers ts) b.history.events).failing ≡ true) → NoneOpen (state_at b)
none_open_in b p ts plan order off (inl none) = subst NoneOpen (sym (state_is b p ts plan order)) none
none_open_in b p ts plan order off (inr failing) = absurd (let clash : false ≡ true = sym off ∙ ap (λ (s : State). s.failing) (state_is b p ts plan order) ∙ failing in cc)
