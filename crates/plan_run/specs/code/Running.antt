-- Beside `specs/Running.antt`: what the code's own contracts say.
use Rattle.std.specs.Prelude.{◌≡◌, ◌⊎◌, ℕ, ◌+◌, ◌≤◌, ◌<◌, true, List, [], ◌++◌, length, take, option_map, Option, Some, None, IfSome, MatchOption, Result, Ok, Err}
use Rattle.values.specs.Apply.{Apply}
use Rattle.outside.specs.declared.counts.Counts.{Counts}
use Rattle.outside.specs.declared.store.Store.{Store}
use Rattle.plan_core.specs.declared.plan.Plan.{Plan}
use Rattle.storage_simulation.specs.declared.standing.Held.{Held}
use Rattle.run_record.specs.Events.{Event}
use Rattle.run_record.specs.code.Events.{Log}
use Rattle.run_record.specs.code.RecordText.{AreEntries}
use Rattle.run_record.specs.declared.run_fault.RunFault.{RunFault}
use Rattle.run_record.specs.declared.run_fault.RunFault.TheVariants as faults
use Rattle.lease_rules.specs.code.Law.{IsSafeState}
use Rattle.lease_rules.specs.Law.{reserved_at, stored_at}
use Rattle.lease_rules.specs.Legal.{IsComplete, Legal}
use Rattle.lease_rules.specs.code.Owning.{entries_by}
use Rattle.lease_rules.specs.State.{now}
use Rattle.site_yard.specs.Changes.{carries}
use Rattle.site_yard.specs.Delivered.{AreDigests, AreFiles, AreLengths, AreOfBytes, arrivals}
use Rattle.site_yard.specs.code.Ending.{first_fault}
use Rattle.site_yard.specs.code.Failures.{AreCounted, IsMore, RoseBy, tool_faults}
use Rattle.site_yard.specs.Faults.{AllBelow}
use Rattle.site_yard.specs.code.Kept.{IsOpening}
use Rattle.site_yard.specs.code.Law.{AgreesSince}
use Rattle.site_yard.specs.Leaving.{left_in}
use Rattle.site_yard.specs.code.Opening.{AreUnused, Refuses, fault_of_opening, looks}
use Rattle.site_yard.specs.code.Reopening.{RefusesAgain, measures}
use Rattle.site_yard.specs.Trace.{trace_of}
use Rattle.site_yard.specs.declared.delivered.Delivered.{Delivered}
use Rattle.site_yard.specs.declared.opening.OpenFault.{OpenFault}
use Rattle.worker_gate.specs.code.Alone.{NoneOpen, tried}
use Rattle.worker_gate.specs.code.Asking.{IsAskedFor}
use Rattle.worker_gate.specs.code.Calls.{AreAllCalls}
use Rattle.worker_gate.specs.code.Inputs.{AreOfInputs}
use Rattle.worker_gate.specs.code.Runs.{tool_runs}
use Rattle.worker_gate.specs.Telling.{placed_by}
use Rattle.plan_run.specs.Moments.{Tools, Work, told_of}
use Rattle.plan_run.specs.code.Moments.{asked_of, count_of, first_tool, runs_of}
use Rattle.plan_run.specs.RunText.{run_text}
use Rattle.plan_run.specs.Running.{AreWithinOutput, IsRunText}

-- how a run ends: all was done, or this is why not; want of memory is one of the reasons
abbrev pub End : Type 0
End = Result (Unit {0}) RunFault

abbrev pub ended_by : RunFault → End
ended_by fault = Err fault

-- how a run begins: at sites that are empty, with no entry, or at what a record holds, with its entries
pub data Opening : Type 0 where
  Fresh : Opening
  Continued : (ℕ → Held) → Opening

-- such an opening is refused with this fault: the host's counts show why, and that it was asked for nothing else
abbrev pub IsRefused : Opening → Plan → Option Store → Counts → Counts → OpenFault → Type 0
IsRefused Fresh p told before after fault = Refuses p told before after fault
IsRefused (Continued held) p told before after fault = RefusesAgain p held told before after fault

-- how many calls of the host it takes
abbrev pub looks_of : Opening → Plan → ℕ
looks_of Fresh p = looks p
looks_of (Continued held) p = measures p held

-- Where the host told what it held, it still tells, and shows the entries r: of its files under the premise that it held what
-- the entries before them say.
abbrev pub IsShown : Work → Plan → List Event → List Event → Type 0
IsShown w p first r = IfSome w.before.told
    (λ m. MatchOption w.after.told ⊥ (λ s. AgreesSince w.apply p first r m s))

-- The opening was refused.
pub record WasRefused (w : Work) (p : Plan) (o : Opening) : Type 0 where
  pub opening : OpenFault
  pub refuses : IsRefused o p w.before.told w.before.counts w.after.counts opening

-- The host's counts of what didn't come rose by what the entries lay on the host, and by no more.
abbrev pub ShowsFailures : Work → Plan → Opening → List Event → Type 0
ShowsFailures w p o r = AreCounted w.before.told w.before.counts.faults w.before.counts.misses w.after.counts r
    ⊎ ((r ≡ []) × WasRefused w p o)

-- The looks at the opening and the calls of the entries, and no others, did what was asked of them.
pub record TakesCalls (w : Work) (p : Plan) (o : Opening) (r : List Event) : Type 0 where
  pub calls : ℕ
  pub are : AreAllCalls p r calls
  pub asked : IsMore (looks_of o p + calls) w.before.counts.done w.after.counts.done

-- the host was asked for nothing else
abbrev pub AsksNothingElse : Work → Plan → Opening → List Event → Type 0
AsksNothingElse w p o r = TakesCalls w p o r ⊎ ((r ≡ []) × WasRefused w p o)

-- for what a gate was asked by the entries of its worker, where one is asked
abbrev pub HasAsked : List Event → Option (List ℕ) → Option (List ℕ) → Type 0
HasAsked r (Some earlier) (Some later) = IsAskedFor r earlier later
HasAsked r (Some earlier) None = ⊥
HasAsked r None later = Unit {0}

-- Of a run by n workers, whatever its answer: `first` are the entries with which it began, r those that it added, together its
-- one record.
pub record IsRun (w : Work) (t : Tools) (n : ℕ) (p : Plan) (order : List ℕ) (o : Opening)
    (first r : List Event) : Type 0 where
  -- each entry is allowed after those before it, and the added ones are by the workers
  pub legal : Legal p order (first ++ r)
  pub below : AllBelow n r
  -- nothing was begun, or all was done, or something failed
  pub over : (r ≡ []) ⊎ (IsComplete p (now p order (first ++ r))
      ⊎ ((now p order (first ++ r)).failing ≡ true))
  -- after every entry each site is within its bound, and the kept order would finish what is left within every bound
  pub safe : (k : ℕ) → IsSafeState p (now p order (take k (first ++ r)))
  -- and what the operations have left at a site is no more than is stored and reserved there
  pub left : (k s : ℕ) → let held = (now p order (take k (first ++ r))).held in
      left_in p (trace_of p (take k (first ++ r))) s ≤ stored_at p held s + reserved_at p held s
  -- what was delivered is within the bound of the output
  pub output : AreWithinOutput p (first ++ r)
  -- the operations are those that the added entries say, and no others
  pub shown : IsShown w p first r
  -- told or not, what they say of a Run's jobs and outputs is so of some bytes, one text for each of its reads
  pub inputs : AreOfInputs w.apply p r
  -- the host failed exactly as often as they lay a failure on it, and each worker's tool at least as often as that worker's do
  pub counted : ShowsFailures w p o r
  pub tools : (k : ℕ) → k < n → RoseBy (tool_faults k r) (count_of t.before k) (count_of t.after k)
  -- and was run no more often than the tasks have jobs whose attempts that worker's entries end
  pub ran : (k : ℕ) → k < n → runs_of t.after k ≤ runs_of t.before k + tool_runs p k r
  -- and each worker's gate was told that worker's added entries, each with its place in the record, and nothing else
  pub told : (k : ℕ) → k < n → told_of t.after k ≡ told_of t.before k ++ placed_by k (length first) r

-- the sites that the plan uses were empty
abbrev pub IsOpened : Work → Plan → Type 0
IsOpened w p = AreUnused p w.before.told

-- the opening was refused, with this fault
pub record IsUnopened (w : Work) (p : Plan) (o : Opening) (fault : RunFault) : Type 0 where
  pub opening : OpenFault
  pub refuses : IsRefused o p w.before.told w.before.counts w.after.counts opening
  pub fault_is : fault ≡ fault_of_opening p opening

-- The fault is that of the record's first Fail, or of an opening that was refused.
abbrev pub Fails : Work → Plan → List Event → RunFault → Type 0
Fails w p r fault = (IsOpened w p × (first_fault p r ≡ Some fault)) ⊎ ((r ≡ []) × IsUnopened w p Fresh fault)

-- The end of a run, read off its record. Want of memory is free.
abbrev pub Tells : Work → Plan → List ℕ → List Event → End → Type 0
Tells w p order r (Ok done) = IsOpened w p × IsComplete p (now p order r)
Tells w p order r (Err faults.Memory) = Unit {0}
Tells w p order r (Err fault) = Fails w p r fault

-- what a run hands out besides its end: its record, if it has one to hand out, its text, and what it delivered
pub record Report : Type 0 where
  pub history : Option (List Event)
  pub text : List ℕ
  pub delivered : List Delivered

abbrev pub reporting : Option Log → List ℕ → List Delivered → Report
reporting log text ds =
    record { history = option_map (λ (h : Log). h.events) log; text = text; delivered = ds }

-- it is that of this record, whose entries are such as a record may have
pub record IsReport (apply : Apply) (p : Plan) (r : List Event) (told : Option Store)
    (x : Report) : Type 0 where
  pub entries : AreEntries r
  pub history : x.history ≡ Some r
  pub text : IsRunText apply p r told x.text
  -- the deliveries are those of its text
  pub delivered : x.delivered ≡ text.delivered

-- The report of a run. At want of memory nothing of it is written, so it is free.
abbrev pub Reports : Apply → Plan → List Event → Option Store → Report → End → Type 0
Reports apply p r told x (Err faults.Memory) = Unit {0}
Reports apply p r told x _ = IsReport apply p r told x

-- A run by n workers from the start, with its end and its report.
pub record HasRun (w : Work) (t : Tools) (n : ℕ) (p : Plan) (order : List ℕ) (x : Report)
    (end : End) : Type 0 where
  pub r : List Event
  pub run : IsRun w t n p order Fresh [] r
  -- no task is open
  pub none_open : NoneOpen (now p order r)
  -- each worker's gate was asked for what that worker's entries say, in their order
  pub gates : (k : ℕ) → k < n → HasAsked (entries_by k r) (asked_of t.before k) (asked_of t.after k)
  pub tells : Tells w p order r end
  pub reports : Reports w.apply p r w.before.told x end

-- A run by one worker alone.
pub record HasRunAlone (w : Work) (p : Plan) (order : List ℕ) (x : Report) (end : End) : Type 0 where
  pub ran : HasRun w (first_tool w) 1 p order x end
  -- tasks are begun in the kept order, and one that is tried again at once
  pub in_order : tried ran.r ≡ take (length (tried ran.r)) order
  pub asked : AsksNothingElse w p Fresh ran.r

-- ---- what a run comes to, also one that is gone on with

-- What was delivered by the added entries, in order: the files and sizes of their arrivals, with the digests of what tasks
-- carry over a store, where that is told and held what the entries before say.
pub record AreDeliveriesSince (apply : Apply) (p : Plan) (first r : List Event) (told : Option Store)
    (ds : List Delivered) : Type 0 where
  pub files : AreFiles ds (arrivals p r)
  pub lengths : AreLengths ds (arrivals p r)
  pub of_bytes : AreOfBytes ds
  pub digests : IfSome told (λ m. IsOpening apply p first m
      → AreDigests (carries apply p m) ds (arrivals p r))

-- the text of the whole record, with what was delivered since
pub record IsTextSince (apply : Apply) (p : Plan) (first r : List Event) (told : Option Store)
    (text : List ℕ) : Type 0 where
  pub entries : AreEntries (first ++ r)
  pub delivered : List Delivered
  pub are : AreDeliveriesSince apply p first r told delivered
  pub text_is : text ≡ run_text p (first ++ r) delivered

-- it hands out the whole record, and what was delivered since
pub record IsReportSince (apply : Apply) (p : Plan) (first r : List Event) (told : Option Store)
    (x : Report) : Type 0 where
  pub history : x.history ≡ Some (first ++ r)
  pub text : IsTextSince apply p first r told x.text
  pub delivered : x.delivered ≡ text.delivered

-- at want of memory nothing is written, so it is free
abbrev pub ReportsSince : Apply → Plan → List Event → List Event → Option Store → Report → End → Type 0
ReportsSince apply p first r told x (Err faults.Memory) = Unit {0}
ReportsSince apply p first r told x _ = IsReportSince apply p first r told x

-- the end of a run that is over
abbrev pub EndsAs : Plan → List ℕ → List Event → End → Type 0
EndsAs p order r (Ok done) = IsComplete p (now p order r)
EndsAs p order r (Err faults.Memory) = Unit {0}
EndsAs p order r (Err fault) = first_fault p r ≡ Some fault

-- the store that was marked, where the host tells
abbrev pub marked_if : Option Store → Store → Option Store
marked_if told m = option_map (λ s. m) told

-- the report of a run that was not begun
pub record IsEmptyReport (p : Plan) (x : Report) : Type 0 where
  pub history : x.history ≡ Some []
  pub text : x.text ≡ run_text p [] []
  pub delivered : x.delivered ≡ []

-- the end and the report of a run whose opening was refused
pub record IsRefusal (p : Plan) (opening : OpenFault) (x : Report) (end : End) : Type 0 where
  pub ends : (end ≡ ended_by faults.Memory) ⊎ (end ≡ ended_by (fault_of_opening p opening))
  pub says : (end ≡ ended_by faults.Memory) ⊎ IsEmptyReport p x
