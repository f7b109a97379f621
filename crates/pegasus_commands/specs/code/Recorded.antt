-- The documents of one request, surveyed, with the document of a record.
use Rattle.std.specs.Prelude.{◌≡◌, ℕ, List}
use Rattle.plan_run.specs.Moments.{Tools, Work}
use Rattle.pegasus_commands.specs.declared.course.WithRecord.{WithRecord}
use Rattle.pegasus_commands.specs.declared.recorded.Recorded.{Recorded}
use Rattle.pegasus_commands.specs.code.CommandSpec.{CommandSpec}
use Rattle.pegasus_commands.specs.code.Course.{documents_with}
use Rattle.pegasus_commands.specs.code.Fault.{Answer}
use Rattle.pegasus_commands.specs.code.InputSpec.{InputSpec, over}
use Rattle.pegasus_commands.specs.code.Survey.{IsSurveyed}

-- This is a request with a survey of its documents, and the bytes of a record.
pub record IsRecorded (r : WithRecord) (i : Recorded) : Type 0 where
  pub surveyed : IsSurveyed r.requested i.surveyed
  pub bytes : i.bytes ≡ r.bytes

-- a request and the documents that it names, surveyed, and the bytes of a record
abbrev pub record_of : List ℕ → List ℕ → InputSpec
record_of name history = record {
  Given = WithRecord;
  course = documents_with name history;
  requested = λ r. r.requested;
  Inputs = Recorded;
  Makes = IsRecorded;
}

abbrev pub over_record : List ℕ → List ℕ → (Work → Tools → Recorded → List ℕ → Answer → Type 0)
    → (Work → Recorded → Type 0) → CommandSpec
over_record name history = over (record_of name history)
