-- A run that is gone on with from the record of one that stopped, by one worker after the lost tasks were done by theirs:
-- what its one record says, and what the host and the tools show of the entries that are added.
use Rattle.std.specs.Prelude.{◌≡◌, ◌⊎◌, ℕ, ◌++◌, List, [], Some, Result, Ok, Err}
use Rattle.plan_core.specs.declared.plan.Plan.{Plan}
use Rattle.storage_simulation.specs.declared.standing.Held.{Held}
use Rattle.run_record.specs.Events.{Event}
use Rattle.run_record.specs.declared.run_fault.RunFault.{RunFault}
use Rattle.run_record.specs.declared.run_fault.RunFault.TheVariants as faults
use Rattle.lease_rules.specs.Legal.{IsComplete, Legal}
use Rattle.lease_rules.specs.State.{now}
use Rattle.site_yard.specs.code.Ending.{first_fault}
use Rattle.site_yard.specs.code.Reopening.{AreRecorded}
use Rattle.record_audit.specs.Verdict.{IsIllegalAt}
use Rattle.plan_run.specs.Moments.{Tools, Work}
use Rattle.plan_run.specs.code.Moments.{asked_of}
use Rattle.plan_run.specs.code.Running.{AsksNothingElse, Continued, IsRun, IsTextSince, IsUnopened, Opening}
use Rattle.plan_run.specs.RunText.{run_text}
use Rattle.resume_run.specs.Replaying.{without_fails}
use Rattle.resume_run.specs.Working.{IsInOrder}
use Rattle.resume_run.specs.declared.resuming.ResumeFault.{ResumeFault}
use Rattle.resume_run.specs.declared.resuming.ResumeFault.TheVariants.{Failed, Illegal}

-- how a resumed run ends: all was done, or this is why not; want of memory is one of the reasons
abbrev pub End : Type 0
End = Result (Unit {0}) ResumeFault

-- the same of a run from the start
abbrev pub resumed_end : Result (Unit {0}) RunFault → End
resumed_end (Ok done) = Ok done
resumed_end (Err fault) = Err (Failed fault)

-- what is held after the entries of a record
abbrev pub held_after : Plan → List ℕ → List Event → ℕ → Held
held_after p order first = (now p order first).held

-- the opening with what a record holds
abbrev pub continued : Plan → List ℕ → List Event → Opening
continued p order first = Continued (held_after p order first)

-- what is stored by the record stands at its sites, at its recorded sizes, where that is told
abbrev pub IsReopened : Work → Plan → (ℕ → Held) → Type 0
IsReopened w p held = AreRecorded p held w.before.told

-- ---- how it ends

-- Something failed: this is the fault of the record's first Fail, which was added.
pub record HasFailed (w : Work) (p : Plan) (order : List ℕ) (first r : List Event) (text : List ℕ)
    (fault : RunFault) : Type 0 where
  pub reopened : IsReopened w p (held_after p order first)
  pub fault_is : first_fault p (first ++ r) ≡ Some fault
  pub text_is : IsTextSince w.apply p first r w.before.told text

-- All was done.
pub record HasEnded (w : Work) (p : Plan) (order : List ℕ) (first r : List Event)
    (text : List ℕ) : Type 0 where
  pub reopened : IsReopened w p (held_after p order first)
  pub complete : IsComplete p (now p order (first ++ r))
  pub text_is : IsTextSince w.apply p first r w.before.told text

abbrev pub Fails : Work → Plan → List ℕ → List Event → List Event → List ℕ → RunFault → Type 0
Fails w p order first r text fault = HasFailed w p order first r text fault
    ⊎ ((r ≡ []) × IsUnopened w p (continued p order first) fault × (text ≡ run_text p [] []))

-- The end of a resumed run and its text, read off its record; where the opening was refused, the text is that of a record
-- without entries. At want of memory nothing is written, so both are free.
abbrev pub Tells : Work → Plan → List ℕ → List Event → List Event → List ℕ → End → Type 0
Tells w p order first r text (Ok done) = HasEnded w p order first r text
Tells w p order first r text (Err (Failed faults.Memory)) = Unit {0}
Tells w p order first r text (Err (Failed fault)) = Fails w p order first r text fault
Tells w p order first r text (Err (Illegal k)) = ⊥

-- A run was gone on with from the record `first`, by these entries, and ended so with its text.
pub record HasGoneOn (w : Work) (t : Tools) (p : Plan) (order : List ℕ) (first : List Event) (text : List ℕ)
    (end : End) : Type 0 where
  pub r : List Event
  -- the added entries are by the sixteen workers
  pub run : IsRun w t 16 p order (continued p order first) first r
  -- each lost task's next entry is its own worker's; after them worker 0 begins what is left in the order that is kept
  pub in_order : IsInOrder p order first r
  -- no gate is asked
  pub gates : (k : ℕ) → asked_of t.after k ≡ asked_of t.before k
  pub asked : AsksNothingElse w p (continued p order first) r
  pub tells : Tells w p order first r text end

-- The record that was given is Legal, and was gone on with without its Fails.
pub record HasResumed (w : Work) (t : Tools) (p : Plan) (order : List ℕ) (given : List Event) (text : List ℕ)
    (end : End) : Type 0 where
  pub legal : Legal p order given
  pub gone_on : HasGoneOn w t p order (without_fails given) text end

-- why a record isn't gone on with: its first entry that isn't allowed, or want of memory
abbrev pub IsWhy : Plan → List ℕ → List Event → End → Type 0
IsWhy p order given (Err (Illegal k)) = IsIllegalAt p order given k
IsWhy p order given (Err (Failed faults.Memory)) = Unit {0}
IsWhy p order given _ = ⊥

-- Nothing was done.
pub record IsUnresumed (w : Work) (t : Tools) (p : Plan) (order : List ℕ) (given : List Event)
    (text : List ℕ) (end : End) : Type 0 where
  pub why : IsWhy p order given end
  pub untouched : w.after ≡ w.before
  pub unused : t.after ≡ t.before
  pub no_text : text ≡ []

abbrev pub Resumes : Work → Tools → Plan → List ℕ → List Event → List ℕ → End → Type 0
Resumes w t p order given text end = IsUnresumed w t p order given text end
    ⊎ HasResumed w t p order given text end
