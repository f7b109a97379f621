-- A run that is gone on with: what its yard's record, its host and its tools say of it.
use Rattle.std.proofs.Common.{◌≡◌, ◌⊎◌, ℕ, zero, suc, false, List, [], ◌∷◌, ◌++◌, length, map, take, drop, refl, sym, ap, subst, ◌∙◌, inl, inr}
use Rattle.std.specs.Prelude.{Option, Some, None, Ok, Err, option_map}
use Rattle.std.proofs.Math.Seq.{drop-append_seam, take-append_seam}
use Rattle.std.proofs.lemmas.List.{append-nil}
use Rattle.values.specs.Apply.{Apply}
use Rattle.values.specs.declared.numbers.TaskId.{TaskId}
use Rattle.outside.specs.declared.store.Store.{Store}
use Rattle.plan_core.specs.declared.plan.Plan.{Plan}
use Rattle.plan_core.specs.Numbers.{or_else}
use Rattle.plan_core.specs.Words.{task_numbers}
use Rattle.run_record.specs.Events.{Event, Grant, Arrive, End as Ended, Clean, Fail, Again, Regrant}
use Rattle.run_record.specs.declared.run_fault.RunFault.{RunFault}
use Rattle.run_record.specs.declared.run_fault.RunFault.TheVariants as faults
use Rattle.lease_book.specs.declared.book.Book.{Book}
use Rattle.lease_book.specs.Book.{state_at}
use Rattle.lease_rules.specs.Legal.{Legal}
use Rattle.lease_rules.specs.State.{State, now}
use Rattle.site_yard.specs.code.Ending.{failed_in, first_failed, first_fault, fault_of}
use Rattle.site_yard.specs.declared.ending.Failed.{Failed}
use Rattle.site_yard.specs.Faults.{AllBelow}
use Rattle.site_yard.specs.code.Opening.{fault_of_opening}
use Rattle.site_yard.specs.code.Reopening.{RefusesAgain}
use Rattle.site_yard.specs.declared.opening.OpenFault.{OpenFault}
use Rattle.worker_gate.specs.code.Alone.{IsOver}
use Rattle.worker_gate.specs.code.Inputs.{AddsOfInputs, AreOfInputs}
use Rattle.craft.specs.declared.crew.Crew.{Crew}
use Rattle.craft.specs.declared.gate.Gate as gate
use Rattle.outside.specs.declared.tool.Tool as tool
use Rattle.plan_run.specs.Moments.{MemberMoment, Tools, Work}
use Rattle.plan_run.specs.code.Moments.{asked_of, crew_moment}
use Rattle.plan_run.specs.code.Running.{End as RunEnd, EndsAs, IsEmptyReport, IsRefusal, IsRefused, Report, ReportsSince, TakesCalls, WasRefused, ended_by, marked_if}
use Rattle.plan_run.proofs.RunningLemmas.{AreParts, HasLaws, IsYardEnd, ShowsRecord, empty_run, reports_from, run_so, state_is}
use Rattle.resume_run.specs.Replaying.{HasFollowed, without_fails}
use Rattle.resume_run.specs.Resuming.{HasGoneOn, IsReopened, Tells, continued, held_after, resumed_end}
use Rattle.resume_run.specs.Working.{IsInOrder}

-- ---- lists

first_of : ℕ → List ℕ → ℕ
first_of d [] = d
first_of d (x ∷ xs) = x

rest_of : List ℕ → List ℕ
rest_of [] = []
rest_of (x ∷ xs) = xs

task : ℕ → TaskId
task n = record { 0 = n }

-- tasks are one where their numbers are
pub numbers_one : (xs ys : List TaskId) → task_numbers xs ≡ task_numbers ys → xs ≡ ys
unfolding first_of rest_of task
numbers_one [] [] e = refl
numbers_one [] (y ∷ ys) e = absurd cc
numbers_one (x ∷ xs) (y ∷ ys) e =
    let head : x.0 ≡ y.0 = ap (first_of 0) e in
    let tail = numbers_one xs ys (ap rest_of e) in
    ap (λ (n : ℕ). task n ∷ xs) head ∙ ap (λ l. y ∷ l) tail
numbers_one (x ∷ xs) [] e = absurd cc

-- the entries of an opening, and those since
pub opened_first : (first added whole : List Event) (k : ℕ) → whole ≡ first ++ added → k ≡ length first → take k whole ≡ first
opened_first first added whole k is all = ap (λ (l : List Event). take k l) is ∙ ap (λ i. take i (first ++ added)) all ∙ take-append_seam first added

pub opened_since : (first added whole : List Event) (k : ℕ) → whole ≡ first ++ added → k ≡ length first → drop k whole ≡ added
opened_since first added whole k is all = ap (λ (l : List Event). drop k l) is ∙ ap (λ i. drop i (first ++ added)) all ∙ drop-append_seam first added

-- ---- what is said at the end

tells_so : (w : Work) (p : Plan) (order : List ℕ) (first r : List Event) (x : Report) (e : RunEnd) → IsReopened w p (held_after p order first) → EndsAs p order (first ++ r) e → ReportsSince w.apply p first r w.before.told x e → Tells w p order first r x.text (resumed_end e)
tells_so w p order first r x (Ok done) reopened h reports = record { reopened = reopened; complete = h; text_is = reports.text }
tells_so w p order first r x (Err faults.Memory) reopened h reports = tt
tells_so w p order first r x (Err fault) reopened h reports = inl (record { reopened = reopened; fault_is = h; text_is = reports.text })

-- what is held in the state that a book shows
pub held_in : (b : Book) (p : Plan) (ts : List TaskId) → b.plan ≡ p → b.order.items ≡ ts → (state_at b).held ≡ held_after p (task_numbers ts) b.history.events
held_in b p ts plan order = ap (λ (s : State). s.held) (state_is b p ts plan order)

-- ---- a run whose opening was accepted

pub went_on : (w : Work) (t : Tools) (p : Plan) (order : List ℕ) (first r whole : List Event) (k : ℕ) (told : Option Store) (marked : Store) (faults misses : ℕ) (x : Report) (e : RunEnd) → AreParts first r whole k → IsYardEnd w t 16 p order first r told marked faults misses
    → ShowsRecord w p order whole k told marked faults misses → IsReopened w p (held_after p order first) → IsInOrder p order first r → ((i : ℕ) → asked_of t.after i ≡ asked_of t.before i) → TakesCalls w p (continued p order first) r → EndsAs p order whole e
    → ReportsSince w.apply p (take k whole) (drop k whole) (marked_if told marked) x e → HasGoneOn w t p order first x.text (resumed_end e)
went_on w t p order first r whole k told marked faults misses x e parts end shows reopened in_order gates calls ends reports = record {
  r = r;
  run = run_so w t 16 p order (continued p order first) first r whole k told marked faults misses parts end shows;
  in_order = in_order;
  gates = gates;
  asked = inl calls;
  tells = tells_so w p order first r x e reopened (subst (λ (l : List Event). EndsAs p order l e) parts.is ends) (reports_from w p first r whole k told marked x e parts end.tells end.marked_is reports);
}

pub parts_of : (first r whole : List Event) (k : ℕ) → whole ≡ first ++ r → k ≡ length first → AreParts first r whole k
parts_of first r whole k is all = record { is = is; before = opened_first first r whole k is all; since = opened_since first r whole k is all }

pub inputs_added : (apply : Apply) (p : Plan) (first r after : List Event) → after ≡ first ++ r → AddsOfInputs apply p first after → AreOfInputs apply p r
inputs_added apply p first r after is adds =
    subst (AreOfInputs apply p) (sym (drop-append_seam first adds.added) ∙ ap (drop (length first)) (sym adds.is ∙ is) ∙ drop-append_seam first r) adds.are

below_since : (first r : List Event) → AllBelow 16 (first ++ r) → AllBelow 16 r
below_since [] r h = h
below_since (e ∷ first) r h = below_since first r h.1

-- ---- a run that wasn't begun

-- the laws of a record, with no entry more
pub laws_none : (p : Plan) (order : List ℕ) (first : List Event) → HasLaws p order first → HasLaws p order (first ++ [])
laws_none p order first laws = subst (HasLaws p order) (sym (append-nil first)) laws

pub legal_none : (p : Plan) (order : List ℕ) (first : List Event) → Legal p order first → Legal p order (first ++ [])
legal_none p order first legal = subst (Legal p order) (sym (append-nil first)) legal

-- an opening that was refused
refusal_tells : (w : Work) (p : Plan) (order : List ℕ) (first : List Event) (opening : OpenFault) (x : Report) (e : RunEnd) → IsRefused (continued p order first) p w.before.told w.before.counts w.after.counts opening → IsRefusal p opening x e → Tells w p order first [] x.text (resumed_end e)
refusal_tells w p order first opening x e refuses refusal = ends refusal.ends refusal.says
  where
    Told : RunEnd → Type 0
    Told d = Tells w p order first [] x.text (resumed_end d)

    by : (fault : RunFault) → fault ≡ fault_of_opening p opening → IsEmptyReport p x → Told (Err fault)
    by faults.Memory is empty = tt
    by fault is empty = inr (refl, record { opening = opening; refuses = refuses; fault_is = is }, empty.text)

    ends : (e ≡ ended_by faults.Memory) ⊎ (e ≡ ended_by (fault_of_opening p opening)) → (e ≡ ended_by faults.Memory) ⊎ IsEmptyReport p x → Told e
    ends (inl is) says = subst Told (sym is) tt
    ends (inr is) (inl memory) = subst Told (sym memory) tt
    ends (inr is) (inr empty) = subst Told (sym is) (by (fault_of_opening p opening) refl empty)

pub not_reopened : (w : Work) (t : Tools) (p : Plan) (order : List ℕ) (first : List Event) (opening : OpenFault) (x : Report) (e : RunEnd) → HasLaws p order first → Legal p order first → w.after.told ≡ w.before.told → t.after ≡ t.before
    → RefusesAgain p (held_after p order first) w.before.told w.before.counts w.after.counts opening → IsRefusal p opening x e → HasGoneOn w t p order first x.text (resumed_end e)
not_reopened w t p order first opening x e laws legal told tools refuses refusal =
    let refused : WasRefused w p (continued p order first) = record { opening = opening; refuses = refuses } in
    record {
      r = [];
      run = empty_run w t 16 p order (continued p order first) first (laws_none p order first laws) (legal_none p order first legal) told (inr (refl, refused)) tools;
      in_order = record { redone = []; later = []; parts = refl; done = tt; stops = tt; goes_on = inl refl; by_zero = tt; first = tt };
      gates = λ k. ap (λ (c : List MemberMoment). asked_of c k) tools;
      asked = inr (refl, refused);
      tells = refusal_tells w p order first opening x e refuses refusal;
    }

-- ---- a record without its Fails

none_first : (r : List Event) → first_failed (without_fails r) ≡ None
none_first [] = refl
none_first (Grant w t ∷ r) = none_first r
none_first (Regrant w t ∷ r) = none_first r
none_first (Arrive w t n ∷ r) = none_first r
none_first (Ended w t ns ∷ r) = none_first r
none_first (Clean w t ∷ r) = none_first r
none_first (Again w t c ns ∷ r) = none_first r
none_first (Fail w t c ns ∷ r) = none_first r

pub no_fault_first : (p : Plan) (r : List Event) → first_fault p (without_fails r) ≡ None
no_fault_first p r = ap (option_map (λ (f : Failed). fault_of p f.task f.cause)) (none_first r)

none_of : (a b : Option Failed) → or_else a b ≡ None → (a ≡ None) × (b ≡ None)
none_of None b h = (refl, h)
none_of (Some x) b h = absurd cc

first_since : (first r : List Event) → first_failed first ≡ None → first_failed (first ++ r) ≡ first_failed r
first_since [] r h = refl
first_since (e ∷ first) r h =
    let parts = none_of (failed_in e) (first_failed first) h in
    ap (λ (o : Option Failed). or_else o (first_failed (first ++ r))) parts.0 ∙ first_since first r parts.1

-- the first Fail of a record that was gone on with is one that was added
pub fault_since : (p : Plan) (given r : List Event) (fault : RunFault) → first_fault p (without_fails given ++ r) ≡ Some fault → first_fault p r ≡ Some fault
fault_since p given r fault h = sym (ap (option_map (λ (f : Failed). fault_of p f.task f.cause)) (first_since (without_fails given) r (none_first given))) ∙ h

-- ---- what a yard's clauses come to

pub over_since : (p : Plan) (order : List ℕ) (first r whole : List Event) → whole ≡ first ++ r → IsOver p (now p order whole) → IsOver p (now p order (first ++ r))
over_since p order first r whole is over = subst (λ (l : List Event). IsOver p (now p order l)) is over

pub below_by : (first r whole : List Event) → whole ≡ first ++ r → AllBelow 16 whole → AllBelow 16 r
below_by first r whole is below = below_since first r (subst (AllBelow 16) is below)

-- a member's gate was asked for the same, where all were
asked_in : List (List ℕ) → ℕ → Option (List ℕ)
asked_in [] k = None
asked_in (x ∷ xs) zero = Some x
asked_in (x ∷ xs) (suc k) = asked_in xs k

asked_by : {T G : Type 0} (t : tool.Ghosts T) (g : gate.Ghosts G) (crew : List (Crew T G)) (k : ℕ) → asked_of (crew_moment t g crew) k ≡ asked_in (map (λ (c : Crew T G). g.asked c.gate) crew) k
unfolding asked_in
asked_by t g [] k = refl
asked_by t g (c ∷ cs) zero = refl
asked_by t g (c ∷ cs) (suc k) = asked_by t g cs k

pub asked_same : {T G : Type 0} (t : tool.Ghosts T) (g : gate.Ghosts G) (old new : List (Crew T G)) → map (λ (c : Crew T G). g.asked c.gate) new ≡ map (λ (c : Crew T G). g.asked c.gate) old → (k : ℕ) → asked_of (crew_moment t g new) k ≡ asked_of (crew_moment t g old) k
asked_same t g old new same k = asked_by t g new k ∙ ap (λ gs. asked_in gs k) same ∙ sym (asked_by t g old k)

-- no Fail stands in a book at a record without its Fails
pub unfailing_in : (p : Plan) (order : List ℕ) (given : List Event) (b : Book) → ((q : Plan) (o : List ℕ) (r : List Event) → first_fault q r ≡ None → (now q o r).failing ≡ false) → HasFollowed p order (without_fails given) b → (state_at b).failing ≡ false
unfailing_in p order given b law has = law b.plan (task_numbers b.order.items) b.history.events (subst (λ (r : List Event). first_fault b.plan r ≡ None) (sym has.history) (no_fault_first b.plan given))
