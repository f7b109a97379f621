-- `audit`: judges a record by the plan and the order of the documents. It touches nothing.
use Rattle.std.specs.Prelude.{◌≡◌, ℕ, List, [], Some, None, Ok, Err}
use Rattle.plan_core.specs.declared.plan.Plan.{Plan}
use Rattle.storage_simulation.specs.code.Ordering.{IsOrder}
use Rattle.storage_simulation.specs.Ordering.{at_start}
use Rattle.planner.specs.code.Planning.{IsPlanOf}
use Rattle.planner.specs.declared.surveyed.Surveyed.{Surveyed}
use Rattle.run_record.specs.Events.{Event}
use Rattle.run_record.specs.code.Fault.{IsMalformedAt}
use Rattle.run_record.specs.code.RecordText.{AreEntries}
use Rattle.run_record.specs.RecordText.{record_text}
use Rattle.record_audit.specs.Part.{record_part}
use Rattle.record_audit.specs.Text.{verdict_line}
use Rattle.record_audit.specs.Verdict.{IsJudged}
use Rattle.record_audit.specs.declared.verdict.Verdict.{Verdict}
use Rattle.plan_run.specs.Moments.{Tools, Work}
use Rattle.pegasus_commands.specs.declared.fault.CallFault.{CallFault}
use Rattle.pegasus_commands.specs.declared.fault.CallFault.TheVariants.{BadRecord, Memory}
use Rattle.pegasus_commands.specs.declared.recorded.Recorded.{Recorded}
use Rattle.pegasus_commands.specs.code.Commands.Plan.{HasNoFault, IsUnplanned, task_limit}
use Rattle.pegasus_commands.specs.code.CommandSpec.{CommandSpec}
use Rattle.pegasus_commands.specs.code.Fault.{Answer}
use Rattle.pegasus_commands.specs.code.Recorded.{over_record}

-- These are a plan and an order of the documents.
pub record IsOrdered (s : Surveyed) (p : Plan) (order : List ℕ) : Type 0 where
  pub planned : IsPlanOf s.request s.survey task_limit p
  pub order_is : IsOrder p at_start order

-- These are the events of the record that stands at the front of the bytes.
pub record IsRecordOf (bytes : List ℕ) (r : List Event) : Type 0 where
  pub entries : AreEntries r
  pub text : record_text r ≡ record_part bytes

-- This is the verdict on the record by a plan and an order of the documents.
pub record IsJudgment (i : Recorded) (p : Plan) (order : List ℕ) (r : List Event) (v : Verdict) : Type 0 where
  pub ordered : IsOrdered i.surveyed p order
  pub is_record : IsRecordOf i.bytes r
  pub judged : IsJudged p order r v

-- a record is judged, and this holds of the judgment
pub record IsJudgedBy (i : Recorded) (Holds : Plan → List ℕ → List Event → Verdict → Type 0) : Type 0 where
  pub plan : Plan
  pub order : List ℕ
  pub history : List Event
  pub verdict : Verdict
  pub judgment : IsJudgment i plan order history verdict
  pub holds : Holds plan order history verdict

-- There is a plan and an order, and the bytes are no record's: this is the number of the first malformed line.
pub record IsBad (i : Recorded) (k : ℕ) : Type 0 where
  pub plan : Plan
  pub order : List ℕ
  pub ordered : IsOrdered i.surveyed plan order
  pub malformed : IsMalformedAt (record_part i.bytes) k

-- why the bytes give no record
abbrev pub IsUnread : List ℕ → CallFault → Type 0
IsUnread bytes Memory = Unit {0}
IsUnread bytes (BadRecord k) = IsMalformedAt (record_part bytes) k
IsUnread bytes fault = ⊥

-- why nothing is judged
abbrev pub IsUnjudged : Recorded → CallFault → Type 0
IsUnjudged i Memory = Unit {0}
IsUnjudged i (BadRecord k) = IsBad i k
IsUnjudged i fault = IsUnplanned i.surveyed fault

-- When each answer comes, and the text before its line, for what is printed of a judged record.
abbrev pub SaysOf : (Plan → List ℕ → List Event → Verdict → List ℕ → Type 0) → Recorded → List ℕ → Answer
    → Type 0
SaysOf Prints i text (Ok None) = IsJudgedBy i (λ p order r v. Prints p order r v text)
SaysOf Prints i text (Ok (Some given)) = ⊥
SaysOf Prints i text (Err Memory) = Unit {0}
SaysOf Prints i text (Err fault) = IsUnjudged i fault × (text ≡ [])

-- `audit` and `stat` change nothing, and say what they are to say of the record
pub record Judges (Prints : Plan → List ℕ → List Event → Verdict → List ℕ → Type 0) (w : Work) (t : Tools)
    (i : Recorded) (text : List ℕ) (answer : Answer) : Type 0 where
  pub untouched : w.after ≡ w.before
  pub says : SaysOf Prints i text answer

-- planning has no fault, and the bytes are a record's
pub record CanJudge (w : Work) (i : Recorded) : Type 0 where
  pub no_fault : HasNoFault i.surveyed
  pub history : List Event
  pub is_record : IsRecordOf i.bytes history

-- the verdict alone
abbrev pub PrintsVerdict : Plan → List ℕ → List Event → Verdict → List ℕ → Type 0
PrintsVerdict p order r v text = text ≡ verdict_line v

abbrev pub audit : List ℕ → List ℕ → CommandSpec
audit name history = over_record name history (Judges PrintsVerdict) CanJudge
