-- A run of a plan: what its yard's record, its host and its tool say of it.
use Rattle.std.proofs.Common.{◌≡◌, ◌⊎◌, ℕ, ◌+◌, ◌≤◌, ◌<◌, zero, suc, true, List, [], ◌∷◌, ◌++◌, length, take, drop, refl, sym, ap, subst, ◌∙◌, inl, inr, arith}
use Rattle.std.specs.Prelude.{Option, Some, None, Result, Ok, Err, IfOk, IfSome, MatchOption, is_some}
use Rattle.std.proofs.Math.Seq.{drop-append_seam}
use Rattle.std.proofs.lemmas.List.{append-nil, take-append-drop}
use Rattle.outside.specs.code.Counts.{IsLater}
use Rattle.values.specs.Apply.{Apply}
use Rattle.outside.specs.declared.counts.Counts.{Counts}
use Rattle.values.specs.declared.numbers.TaskId.{TaskId}
use Rattle.outside.specs.declared.store.Store.{Store}
use Rattle.plan_core.specs.declared.plan.Plan.{Plan}
use Rattle.plan_core.specs.Words.{task_numbers}
use Rattle.storage_simulation.specs.declared.standing.Phase.{Phase}
use Rattle.storage_simulation.specs.declared.standing.Phase.TheVariants.{Runs, Waits}
use Rattle.run_record.specs.Events.{Event}
use Rattle.run_record.specs.code.RecordText.{AreEntries}
use Rattle.lease_book.specs.declared.book.Book.{Book}
use Rattle.lease_book.specs.Book.{state_at}
use Rattle.lease_rules.specs.code.Law.{IsSafeState}
use Rattle.lease_rules.specs.Law.{reserved_at, stored_at}
use Rattle.lease_rules.specs.Legal.{IsComplete, Legal}
use Rattle.lease_rules.specs.code.Owning.{entries_by}
use Rattle.lease_rules.specs.State.{State, now, opened}
use Rattle.site_yard.specs.Changes.{carries}
use Rattle.site_yard.specs.Delivered.{AreDigests, AreFiles, AreLengths, AreOfBytes, arrivals}
use Rattle.site_yard.specs.code.Ending.{Ends}
use Rattle.site_yard.specs.code.Failures.{AreCounted, AreMore, IsMore, RoseBy, host_faults, host_misses, tool_faults}
use Rattle.site_yard.specs.Faults.{AllBelow}
use Rattle.site_yard.specs.code.Kept.{IsOpening}
use Rattle.site_yard.specs.code.Law.{AgreesSince}
use Rattle.site_yard.proofs.AgreesLemmas.{all_since, none_agrees, opening_of_none}
use Rattle.site_yard.specs.Leaving.{left_in}
use Rattle.site_yard.specs.code.Opening.{AreUnused, Refuses, fault_of_opening, looks}
use Rattle.site_yard.specs.Trace.{trace_of}
use Rattle.site_yard.specs.declared.delivered.Delivered.{Delivered}
use Rattle.run_record.specs.declared.run_fault.RunFault.{RunFault}
use Rattle.run_record.specs.declared.run_fault.RunFault.TheVariants as faults
use Rattle.site_yard.specs.declared.opening.OpenFault.{OpenFault}
use Rattle.worker_gate.specs.code.Alone.{AllBy, IsOver, NoneOpen, WorksAlone, tried}
use Rattle.worker_gate.specs.code.Calls.{AddsCalls, AreAllCalls}
use Rattle.worker_gate.specs.code.Inputs.{AddsOfInputs, AreOfInputs}
use Rattle.worker_gate.specs.code.Runs.{RunsWithin, tool_runs}
use Rattle.worker_gate.proofs.RunsLemmas.{no_runs}
use Rattle.worker_gate.specs.code.Telling.{IsToldOf}
use Rattle.worker_gate.specs.Telling.{placed_by}
use Rattle.plan_run.specs.Moments.{MemberMoment, Tools, Work, gateless, told_of}
use Rattle.plan_run.specs.code.Moments.{asked_of, count_of, first_tool, runs_of}
use Rattle.plan_run.specs.Running.{AreDeliveries, AreWithinOutput}
use Rattle.plan_run.specs.code.Running.{AreDeliveriesSince, End, EndsAs, Fresh, HasAsked, HasRun, HasRunAlone, IsEmptyReport, IsRefusal, IsReportSince, IsRun, IsShown, IsTextSince, Opening, Report, Reports, ReportsSince, ShowsFailures, TakesCalls, Tells, ended_by, looks_of, marked_if}
use Rattle.plan_run.specs.RunText.{run_text}

-- what the laws of lease_book and site_yard say of a record
pub record HasLaws (p : Plan) (order : List ℕ) (r : List Event) : Type 0 where
  pub safe : (k : ℕ) → IsSafeState p (now p order (take k r))
  pub output : AreWithinOutput p r
  pub left : (k s : ℕ) → left_in p (trace_of p (take k r)) s ≤ stored_at p (now p order (take k r)).held s + reserved_at p (now p order (take k r)).held s

-- the state that a book shows
pub state_is : (b : Book) (p : Plan) (ts : List TaskId) → b.plan ≡ p → b.order.items ≡ ts → state_at b ≡ now p (task_numbers ts) b.history.events
state_is b p ts plan order = ap (λ (q : Plan). now q (task_numbers b.order.items) b.history.events) plan ∙ ap (λ (xs : List TaskId). now p (task_numbers xs) b.history.events) order

pub over_in : (b : Book) (p : Plan) (ts : List TaskId) → b.plan ≡ p → b.order.items ≡ ts → IsOver p (now p (task_numbers ts) b.history.events) → IsComplete p (state_at b) ⊎ ((state_at b).failing ≡ true)
over_in b p ts plan order over = subst (λ (s : State). IsComplete p s ⊎ (s.failing ≡ true)) (sym (state_is b p ts plan order)) over

pub complete_in : (b : Book) (p : Plan) (ts : List TaskId) → b.plan ≡ p → b.order.items ≡ ts → IsComplete p (state_at b) → IsComplete p (now p (task_numbers ts) b.history.events)
complete_in b p ts plan order complete = subst (IsComplete p) (state_is b p ts plan order) complete

-- no task is open at the start
pub none_open : (order : List ℕ) → NoneOpen (opened order)
none_open order w t opened_ = (let clash : ◌≡◌ {A = Phase} Waits Runs = opened_.runs in absurd cc)

pub none_open_in : (b : Book) (p : Plan) (ts : List TaskId) → b.plan ≡ p → b.order.items ≡ ts → b.history.events ≡ [] → NoneOpen (state_at b)
none_open_in b p ts plan order none = subst NoneOpen (sym (state_is b p ts plan order ∙ ap (now p (task_numbers ts)) none)) (none_open (task_numbers ts))

below_one : (r : List Event) → AllBy 0 r → AllBelow 1 r
below_one [] h = tt
below_one (e ∷ r) h = (omega (arith, h.0), below_one r h.1)

-- what is told at the end by what was told at the start
shown_so : (w : Work) (p : Plan) (first r : List Event) (m : Store) (told : Option Store) → w.after.told ≡ told → is_some told ≡ is_some w.before.told → IfSome w.before.told (λ s. m ≡ s) → IfSome told (AgreesSince w.apply p first r m) → IsShown w p first r
shown_so w p first r m told after tells marked agrees = by w.before.told told tells marked agrees after
  where
    by : (old new : Option Store) → is_some new ≡ is_some old → IfSome old (λ s. m ≡ s) → IfSome new (AgreesSince w.apply p first r m) → w.after.told ≡ new → IfSome old (λ x. MatchOption w.after.told ⊥ (λ s. AgreesSince w.apply p first r x s))
    by None new tells marked agrees after = tt
    by (Some x) None tells marked agrees after = absurd cc
    by (Some x) (Some s) tells marked agrees after = subst (λ (o : Option Store). MatchOption o ⊥ (λ z. AgreesSince w.apply p first r x z)) (sym after) (subst (λ (y : Store). AgreesSince w.apply p first r y s) marked agrees)

counted_so : (r : List Event) (old new : Option Store) (faults misses f m : ℕ) (now_ : Counts) → is_some new ≡ is_some old → faults ≡ f → misses ≡ m → AreCounted new faults misses now_ r → AreCounted old f m now_ r
counted_so r None None faults misses f m now_ tells e g counted = rw (e, g) at counted
counted_so r None (Some s) faults misses f m now_ tells e g counted = absurd cc
counted_so r (Some x) None faults misses f m now_ tells e g counted = absurd cc
counted_so r (Some x) (Some s) faults misses f m now_ tells e g counted = rw (e, g) at counted

deliveries_so : (apply : Apply) (p : Plan) (first r : List Event) (old new : Option Store) (m : Store) (ds : List Delivered) → is_some new ≡ is_some old → IfSome old (λ s. m ≡ s) → AreDeliveriesSince apply p first r (marked_if new m) ds → AreDeliveriesSince apply p first r old ds
deliveries_so apply p first r old new m ds tells marked are = record { files = are.files; lengths = are.lengths; of_bytes = are.of_bytes; digests = by old new tells marked are.digests }
  where
    Holds : Store → Type 0
    Holds x = IsOpening apply p first x → AreDigests (carries apply p x) ds (arrivals p r)

    by : (old new : Option Store) → is_some new ≡ is_some old → IfSome old (λ s. m ≡ s) → IfSome (marked_if new m) Holds → IfSome old Holds
    by None new tells marked digests = tt
    by (Some x) None tells marked digests = absurd cc
    by (Some x) (Some s) tells marked digests = subst Holds marked digests

abbrev text_so : (w : Work) (p : Plan) (first r : List Event) (new : Option Store) (m : Store) (text : List ℕ) → is_some new ≡ is_some w.before.told → IfSome w.before.told (λ s. m ≡ s) → IsTextSince w.apply p first r (marked_if new m) text → IsTextSince w.apply p first r w.before.told text
text_so w p first r new m text tells marked h = record { entries = h.entries; delivered = h.delivered; are = deliveries_so w.apply p first r w.before.told new m h.delivered tells marked h.are; text_is = h.text_is }

reports_so : (w : Work) (p : Plan) (first r : List Event) (new : Option Store) (m : Store) (x : Report) (a : End) → is_some new ≡ is_some w.before.told → IfSome w.before.told (λ s. m ≡ s) → ReportsSince w.apply p first r (marked_if new m) x a → ReportsSince w.apply p first r w.before.told x a
reports_so w p first r new m x (Err faults.Memory) tells marked h = tt
reports_so w p first r new m x a tells marked h = record { history = h.history; text = text_so w p first r new m x.text tells marked h.text; delivered = h.delivered }

-- what was delivered since a start is all that was
fresh_deliveries : (apply : Apply) (p : Plan) (r : List Event) (told : Option Store) (ds : List Delivered) → AreDeliveriesSince apply p [] r told ds → AreDeliveries apply p r told ds
fresh_deliveries apply p r told ds are = record { files = are.files; lengths = are.lengths; of_bytes = are.of_bytes; digests = by told are.digests }
  where
    by : (o : Option Store) → IfSome o (λ m. IsOpening apply p [] m → AreDigests (carries apply p m) ds (arrivals p r)) → IfSome o (λ m. AreDigests (carries apply p m) ds (arrivals p r))
    by None h = tt
    by (Some m) h = h (opening_of_none apply p m)

fresh_reports : (apply : Apply) (p : Plan) (r : List Event) (told : Option Store) (x : Report) (a : End) → ReportsSince apply p [] r told x a → Reports apply p r told x a
fresh_reports apply p r told x (Err faults.Memory) h = tt
fresh_reports apply p r told x a h = record { entries = h.text.entries; history = h.history; text = record { delivered = h.text.delivered; are = fresh_deliveries apply p r told h.text.delivered h.text.are; text_is = h.text.text_is }; delivered = h.delivered }

tells_so : (w : Work) (p : Plan) (order : List ℕ) (r : List Event) (a : End) → AreUnused p w.before.told → EndsAs p order r a → Tells w p order r a
tells_so w p order r (Ok done) unused h = (unused, h)
tells_so w p order r (Err faults.Memory) unused h = tt
tells_so w p order r (Err fault) unused h = inl (unused, h)

-- the end of a run that is over
pub ends_by : (p : Plan) (order : List ℕ) (r : List Event) (fault : RunFault) → Ends p r (Err fault) → EndsAs p order r (ended_by fault)
ends_by p order r faults.Memory h = tt
ends_by p order r fault h = h

-- the report of a yard that was opened with so many entries
abbrev pub report_is : (apply : Apply) (p : Plan) (k : ℕ) (whole : List Event) (told : Option Store) (m : Store) (x : Report) (ds : List Delivered) → AreEntries whole → AreFiles ds (arrivals p (drop k whole)) → AreLengths ds (arrivals p (drop k whole)) → AreOfBytes ds
    → (IsOpening apply p (take k whole) m → IfSome told (λ s. AreDigests (carries apply p m) ds (arrivals p (drop k whole)))) → x.history ≡ Some whole → x.text ≡ run_text p whole ds → x.delivered ≡ ds → IsReportSince apply p (take k whole) (drop k whole) (marked_if told m) x
report_is apply p k whole told m x ds entries are_files are_lengths are_of_bytes digests history text delivered = record {
  history = history ∙ ap Some (sym parts);
  text = record {
    entries = subst AreEntries (sym parts) entries;
    delivered = ds;
    are = record { files = are_files; lengths = are_lengths; of_bytes = are_of_bytes; digests = by told digests };
    text_is = text ∙ ap (λ (l : List Event). run_text p l ds) (sym parts);
  };
  delivered = delivered;
}
  where
    parts : take k whole ++ drop k whole ≡ whole
    parts = take-append-drop k whole

    by : (o : Option Store) → (IsOpening apply p (take k whole) m → IfSome o (λ s. AreDigests (carries apply p m) ds (arrivals p (drop k whole)))) → IfSome (marked_if o m) (λ x. IsOpening apply p (take k whole) x → AreDigests (carries apply p x) ds (arrivals p (drop k whole)))
    by None h = tt
    by (Some s) h = h

pub reports_all : (apply : Apply) (p : Plan) (first r : List Event) (told : Option Store) (x : Report) (a : End) → IsReportSince apply p first r told x → ReportsSince apply p first r told x a
reports_all apply p first r told x (Err faults.Memory) h = tt
reports_all apply p first r told x a h = h

pub if_ok : {A E : Type 0} (r : Result A E) (P Q : A → Type 0) → ((a : A) → P a → Q a) → IfOk r P → IfOk r Q
if_ok (Ok a) P Q f h = f a h
if_ok (Err e) P Q f h = tt

pub marked_so : (o : Option Store) (m n : Store) → n ≡ m → IfSome o (λ s. m ≡ s) → IfSome o (λ s. n ≡ s)
marked_so None m n same h = tt
marked_so (Some s) m n same h = same ∙ h

-- ---- a run whose opening was accepted

-- What a yard shows at the end of a run by n workers that added the entries r.
pub record IsYardEnd (w : Work) (t : Tools) (n : ℕ) (p : Plan) (order : List ℕ) (first r : List Event) (told : Option Store) (marked : Store) (faults misses : ℕ) : Type 0 where
  pub told_is : w.after.told ≡ told
  pub tells : is_some told ≡ is_some w.before.told
  pub marked_is : IfSome w.before.told (λ s. marked ≡ s)
  pub faults_are : faults ≡ w.before.counts.faults
  pub misses_are : misses ≡ w.before.counts.misses
  pub below : AllBelow n r
  pub over : (r ≡ []) ⊎ IsOver p (now p order (first ++ r))
  pub inputs : AreOfInputs w.apply p r
  pub tools : (k : ℕ) → k < n → RoseBy (tool_faults k r) (count_of t.before k) (count_of t.after k)
  pub ran : (k : ℕ) → k < n → runs_of t.after k ≤ runs_of t.before k + tool_runs p k r
  pub entered : (k : ℕ) → k < n → told_of t.after k ≡ told_of t.before k ++ placed_by k (length first) r

-- The entries of a yard's whole record: those with which it was opened, so many, and those that were added.
pub record AreParts (first r whole : List Event) (k : ℕ) : Type 0 where
  pub is : whole ≡ first ++ r
  pub before : take k whole ≡ first
  pub since : drop k whole ≡ r

-- What a yard shows of its whole record.
pub record ShowsRecord (w : Work) (p : Plan) (order : List ℕ) (whole : List Event) (k : ℕ) (told : Option Store) (marked : Store) (faults misses : ℕ) : Type 0 where
  pub laws : HasLaws p order whole
  pub legal : Legal p order whole
  pub agrees : IfSome told (AgreesSince w.apply p (take k whole) (drop k whole) marked)
  pub counted : AreCounted told faults misses w.after.counts (drop k whole)

pub run_so : (w : Work) (t : Tools) (n : ℕ) (p : Plan) (order : List ℕ) (o : Opening) (first r whole : List Event) (k : ℕ) (told : Option Store) (marked : Store) (faults misses : ℕ) → AreParts first r whole k → IsYardEnd w t n p order first r told marked faults misses
    → ShowsRecord w p order whole k told marked faults misses → IsRun w t n p order o first r
run_so w t n p order o first r whole k told marked faults misses parts end shows =
    let laws = subst (HasLaws p order) parts.is shows.laws in
    let agrees = subst (λ (l : List Event). IfSome told (AgreesSince w.apply p l r marked)) parts.before (subst (λ (l : List Event). IfSome told (AgreesSince w.apply p (take k whole) l marked)) parts.since shows.agrees) in
    let counted = subst (λ (l : List Event). AreCounted told faults misses w.after.counts l) parts.since shows.counted in
    record {
      legal = subst (Legal p order) parts.is shows.legal;
      below = end.below;
      over = end.over;
      safe = laws.safe;
      output = laws.output;
      left = laws.left;
      shown = shown_so w p first r marked told end.told_is end.tells end.marked_is agrees;
      inputs = end.inputs;
      counted = inl (counted_so r w.before.told told faults misses w.before.counts.faults w.before.counts.misses w.after.counts end.tells end.faults_are end.misses_are counted);
      tools = end.tools;
      ran = end.ran;
      told = end.entered;
    }

pub reports_from : (w : Work) (p : Plan) (first r whole : List Event) (k : ℕ) (new : Option Store) (m : Store) (x : Report) (a : End) → AreParts first r whole k → is_some new ≡ is_some w.before.told → IfSome w.before.told (λ s. m ≡ s)
    → ReportsSince w.apply p (take k whole) (drop k whole) (marked_if new m) x a → ReportsSince w.apply p first r w.before.told x a
reports_from w p first r whole k new m x a parts tells marked h =
    let before = subst (λ (l : List Event). ReportsSince w.apply p l (drop k whole) (marked_if new m) x a) parts.before h in
    reports_so w p first r new m x a tells marked (subst (λ (l : List Event). ReportsSince w.apply p first l (marked_if new m) x a) parts.since before)

-- of a yard that was opened with no entry all were added
pub all_parts : (whole : List Event) (k : ℕ) → take k whole ≡ [] → AreParts [] whole whole k
all_parts whole k none = record { is = refl; before = none; since = all_since k whole none }

-- A run from the start.
pub ran : (w : Work) (t : Tools) (n : ℕ) (p : Plan) (order : List ℕ) (r : List Event) (k : ℕ) (told : Option Store) (marked : Store) (faults misses : ℕ) (x : Report) (a : End) → take k r ≡ [] → AreUnused p w.before.told → NoneOpen (now p order r)
    → ((i : ℕ) → i < n → HasAsked (entries_by i r) (asked_of t.before i) (asked_of t.after i)) → IsYardEnd w t n p order [] r told marked faults misses → ShowsRecord w p order r k told marked faults misses → EndsAs p order r a
    → ReportsSince w.apply p (take k r) (drop k r) (marked_if told marked) x a → HasRun w t n p order x a
ran w t n p order r k told marked faults misses x a none unused free gates end shows answers reports = record {
  r = r;
  run = run_so w t n p order Fresh [] r r k told marked faults misses (all_parts r k none) end shows;
  none_open = free;
  gates = gates;
  tells = tells_so w p order r a unused answers;
  reports = fresh_reports w.apply p r w.before.told x a (reports_from w p [] r r k told marked x a (all_parts r k none) end.tells end.marked_is reports);
}

-- ---- one worker alone

first_rose : (w : Work) (r added : List Event) → r ≡ added → RoseBy (tool_faults 0 added) w.before.tool w.after.tool → (k : ℕ) → k < 1 → RoseBy (tool_faults k r) (count_of (first_tool w).before k) (count_of (first_tool w).after k)
first_rose w r added is rose zero l = subst (λ (es : List Event). RoseBy (tool_faults 0 es) w.before.tool w.after.tool) (sym is) rose
first_rose w r added is rose (suc k) l = absurd (omega (arith, l))

first_ran : (w : Work) (p : Plan) (r : List Event) → RunsWithin p 0 [] r w.before.runs w.after.runs → (k : ℕ) → k < 1 → runs_of (first_tool w).after k ≤ runs_of (first_tool w).before k + tool_runs p k r
first_ran w p r few zero l = let none = no_runs p 0 in omega (arith, few, none)
first_ran w p r few (suc k) l = absurd (omega (arith, l))

no_gate : (w : Work) (r : List Event) (k : ℕ) → HasAsked (entries_by k r) (asked_of (first_tool w).before k) (asked_of (first_tool w).after k)
no_gate w r zero = tt
no_gate w r (suc k) = tt

first_told : (w : Work) (r : List Event) → IsToldOf 0 [] r w.before.entered w.after.entered → (k : ℕ) → k < 1 → told_of (first_tool w).after k ≡ told_of (first_tool w).before k ++ placed_by k 0 r
first_told w r h zero l = h.told ∙ ap (λ (es : List Event). w.before.entered ++ placed_by 0 0 es) (sym h.is)
first_told w r h (suc k) l = absurd (omega (arith, l))

-- What a yard adds in a run by one worker alone.
pub record IsAloneEnd (w : Work) (p : Plan) (order : List ℕ) (r : List Event) (opened : Counts) : Type 0 where
  pub works : WorksAlone p order [] r w.before.tool w.after.tool
  pub inputs : AddsOfInputs w.apply p [] r
  pub entered : IsToldOf 0 [] r w.before.entered w.after.entered
  pub runs : RunsWithin p 0 [] r w.before.runs w.after.runs
  pub looked : AreMore (looks p) 0 0 w.before.counts opened
  pub later : IsLater opened w.after.counts
  pub calls : AddsCalls p [] r opened w.after.counts

pub alone_end : (w : Work) (p : Plan) (order : List ℕ) (r : List Event) (opened : Counts) (told : Option Store) (marked : Store) (faults misses : ℕ) → IsAloneEnd w p order r opened → w.after.told ≡ told → is_some told ≡ is_some w.before.told → IfSome w.before.told (λ s. marked ≡ s) → faults ≡ w.before.counts.faults
    → misses ≡ w.before.counts.misses → IsYardEnd w (first_tool w) 1 p order [] r told marked faults misses
alone_end w p order r opened told marked faults misses end told_is tells marked_is faults_are misses_are = record {
  told_is = told_is;
  tells = tells;
  marked_is = marked_is;
  faults_are = faults_are;
  misses_are = misses_are;
  below = subst (AllBelow 1) (sym end.works.is) (below_one end.works.added end.works.by_zero);
  over = inr end.works.over;
  inputs = subst (AreOfInputs w.apply p) (sym end.inputs.is) end.inputs.are;
  tools = first_rose w r end.works.added end.works.is end.works.counted;
  ran = first_ran w p r end.runs;
  entered = first_told w r end.entered;
}

-- what the host was asked for
pub takes_calls : (w : Work) (p : Plan) (o : Opening) (first r after : List Event) (opened now_ : Counts) → after ≡ first ++ r → opened.done ≤ now_.done → AreMore (looks_of o p) 0 0 w.before.counts opened → AddsCalls p first after opened now_ → now_ ≡ w.after.counts → TakesCalls w p o r
takes_calls w p o first r after opened now_ is later looked adds same = record {
  calls = adds.calls;
  are = subst (λ (es : List Event). AreAllCalls p es adds.calls) added adds.are;
  asked = subst (λ (c : Counts). IsMore (looks_of o p + adds.calls) w.before.counts.done c.done) same (asked_both (looks_of o p) adds.calls w.before.counts.done opened.done now_.done looked.done_is adds.asked later);
}
  where
    added : adds.added ≡ r
    added = sym (drop-append_seam first adds.added) ∙ ap (drop (length first)) (sym adds.is ∙ is) ∙ drop-append_seam first r

    asked_both : (n k a b c : ℕ) → IsMore n a b → IsMore k b c → b ≤ c → IsMore (n + k) a c
    asked_both n k a b c first second later = λ small.
        let one = first (omega (arith, small, later)) in
        let two = second small in
        omega (arith, one, two)

-- A run by one worker whose opening was accepted.
pub ran_alone : (w : Work) (p : Plan) (order : List ℕ) (r : List Event) (k : ℕ) (begun : Counts) (told : Option Store) (marked : Store) (faults misses : ℕ) (x : Report) (a : End) → take k r ≡ [] → AreUnused p w.before.told → IsAloneEnd w p order r begun → IsYardEnd w (first_tool w) 1 p order [] r told marked faults misses
    → ShowsRecord w p order r k told marked faults misses → EndsAs p order r a → ReportsSince w.apply p (take k r) (drop k r) (marked_if told marked) x a → HasRunAlone w p order x a
unfolding ran
ran_alone w p order r k begun told marked faults misses x a none unused alone end shows answers reports = record {
  ran = ran w (first_tool w) 1 p order r k told marked faults misses x a none unused alone.works.none_open (λ i l. no_gate w r i) end shows answers reports;
  in_order = subst (λ (es : List Event). tried es ≡ take (length (tried es)) order) (sym alone.works.is) alone.works.in_order;
  asked = inl (takes_calls w p Fresh [] r r begun w.after.counts refl alone.later.done alone.looked alone.calls refl);
}

-- ---- a refused opening

shown_at_start : (w : Work) (p : Plan) (first : List Event) → w.after.told ≡ w.before.told → IsShown w p first []
shown_at_start w p first same = by w.before.told same
  where
    by : (old : Option Store) → w.after.told ≡ old → IfSome old (λ m. MatchOption w.after.told ⊥ (λ s. AgreesSince w.apply p first [] m s))
    by None after = tt
    by (Some m) after = subst (λ (o : Option Store). MatchOption o ⊥ (λ s. AgreesSince w.apply p first [] m s)) (sym after) (none_agrees w.apply p first m)

counted_at_start : (told : Option Store) (c : Counts) → AreCounted told c.faults c.misses c []
unfolding host_faults host_misses
counted_at_start None c = λ l m. omega arith
counted_at_start (Some s) c = (λ l. omega arith, λ l. omega arith)

tool_at_start : (k before after : ℕ) → before ≡ after → RoseBy (tool_faults k []) before after
unfolding tool_faults
tool_at_start k before after same = λ l. omega (arith, same)

runs_at_start : (p : Plan) (k before after : ℕ) → after ≡ before → after ≤ before + tool_runs p k []
runs_at_start p k before after same = omega (arith, same)

gate_at_start : (asked : Option (List ℕ)) → HasAsked [] asked asked
gate_at_start None = tt
gate_at_start (Some ts) = record { asked = []; is = sym (append-nil ts); are = refl }

refusal_tells : (w : Work) (p : Plan) (order : List ℕ) (opening : OpenFault) (a : End) → Refuses p w.before.told w.before.counts w.after.counts opening → (a ≡ ended_by faults.Memory) ⊎ (a ≡ ended_by (fault_of_opening p opening)) → Tells w p order [] a
refusal_tells w p order opening a refuses (inl e) = subst (Tells w p order []) (sym e) tt
refusal_tells w p order opening a refuses (inr e) = subst (Tells w p order []) (sym e) (by (fault_of_opening p opening) refl)
  where
    by : (fault : RunFault) → fault ≡ fault_of_opening p opening → Tells w p order [] (ended_by fault)
    by faults.Memory is = tt
    by fault is = inr (refl, record { opening = opening; refuses = refuses; fault_is = is })

no_deliveries : (apply : Apply) (p : Plan) (told : Option Store) → AreDeliveries apply p [] told []
no_deliveries apply p told = record { files = refl; lengths = refl; of_bytes = λ k d l. absurd (omega (arith, l)); digests = by told }
  where
    by : (o : Option Store) → IfSome o (λ m. AreDigests (carries apply p m) [] (arrivals p []))
    by None = tt
    by (Some m) = refl

refusal_reports : (w : Work) (p : Plan) (x : Report) (a : End) → (a ≡ ended_by faults.Memory) ⊎ IsEmptyReport p x → Reports w.apply p [] w.before.told x a
refusal_reports w p x (Err faults.Memory) h = tt
refusal_reports w p x a (inl e) = subst (Reports w.apply p [] w.before.told x) (sym e) tt
refusal_reports w p x a (inr e) = record { entries = tt; history = e.history; text = record { delivered = []; are = no_deliveries w.apply p w.before.told; text_is = e.text }; delivered = e.delivered }

-- A run that added no entry.
pub empty_run : (w : Work) (t : Tools) (n : ℕ) (p : Plan) (order : List ℕ) (o : Opening) (first : List Event) → HasLaws p order (first ++ []) → Legal p order (first ++ []) → w.after.told ≡ w.before.told → ShowsFailures w p o [] → t.after ≡ t.before → IsRun w t n p order o first []
empty_run w t n p order o first laws legal told failures tools = record {
  legal = legal;
  below = tt;
  over = inl refl;
  safe = laws.safe;
  output = laws.output;
  left = laws.left;
  shown = shown_at_start w p first told;
  inputs = tt;
  counted = failures;
  tools = λ k l. tool_at_start k (count_of t.before k) (count_of t.after k) (ap (λ (c : List MemberMoment). count_of c k) (sym tools));
  ran = λ k l. runs_at_start p k (runs_of t.before k) (runs_of t.after k) (ap (λ (c : List MemberMoment). runs_of c k) tools);
  told = λ k l. ap (λ (c : List MemberMoment). told_of c k) tools ∙ sym (append-nil (told_of t.before k));
}

-- A run that was not begun.
pub not_begun : (w : Work) (t : Tools) (n : ℕ) (p : Plan) (order : List ℕ) (x : Report) (a : End) → HasLaws p order [] → w.after.told ≡ w.before.told → t.after ≡ t.before → ShowsFailures w p Fresh [] → Tells w p order [] a → Reports w.apply p [] w.before.told x a → HasRun w t n p order x a
not_begun w t n p order x a laws told tools failures tells reports = record {
  r = [];
  run = empty_run w t n p order Fresh [] laws tt told failures tools;
  none_open = none_open order;
  gates = λ k l. subst (λ (c : List MemberMoment). HasAsked [] (asked_of t.before k) (asked_of c k)) (sym tools) (gate_at_start (asked_of t.before k));
  tells = tells;
  reports = reports;
}

-- One whose opening was refused.
pub was_refused : (w : Work) (t : Tools) (n : ℕ) (p : Plan) (order : List ℕ) (opening : OpenFault) (x : Report) (a : End) → HasLaws p order [] → w.after.told ≡ w.before.told → t.after ≡ t.before → Refuses p w.before.told w.before.counts w.after.counts opening → IsRefusal p opening x a → HasRun w t n p order x a
was_refused w t n p order opening x a laws told tools refuses refusal =
    not_begun w t n p order x a laws told tools (inr (refl, record { opening = opening; refuses = refuses })) (refusal_tells w p order opening a refuses refusal.ends) (refusal_reports w p x a refusal.says)

pub alone_was_refused : (w : Work) (p : Plan) (order : List ℕ) (opening : OpenFault) (x : Report) (a : End) → HasLaws p order [] → w.after.told ≡ w.before.told → w.after.tool ≡ w.before.tool → w.after.runs ≡ w.before.runs → w.after.entered ≡ w.before.entered
    → Refuses p w.before.told w.before.counts w.after.counts opening → IsRefusal p opening x a → HasRunAlone w p order x a
unfolding was_refused not_begun
alone_was_refused w p order opening x a laws told tool runs entered refuses refusal = record {
  ran = was_refused w (first_tool w) 1 p order opening x a laws told (λ i. gateless (tool i) (runs i) (entered i) ∷ []) refuses refusal;
  in_order = refl;
  asked = inr (refl, record { opening = opening; refuses = refuses });
}

-- A run for which there was no memory to begin.
pub no_room : (w : Work) (t : Tools) (n : ℕ) (p : Plan) (order : List ℕ) (x : Report) → HasLaws p order [] → w.after.told ≡ w.before.told → w.after.counts ≡ w.before.counts → t.after ≡ t.before → HasRun w t n p order x (ended_by faults.Memory)
no_room w t n p order x laws told same tools =
    let counted = subst (λ (c : Counts). AreCounted w.before.told w.before.counts.faults w.before.counts.misses c []) (sym same) (counted_at_start w.before.told w.before.counts) in
    not_begun w t n p order x (ended_by faults.Memory) laws told tools (inl counted) tt tt
