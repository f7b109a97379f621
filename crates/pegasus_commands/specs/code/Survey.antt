-- The documents of one request, surveyed.
use Rattle.std.specs.Prelude.{◌≡◌, ℕ, List}
use Rattle.planner.specs.code.Course.{IsSurvey}
use Rattle.planner.specs.declared.surveyed.Surveyed.{Surveyed}
use Rattle.plan_run.specs.Moments.{Tools, Work}
use Rattle.pegasus_commands.specs.declared.course.Requested.{Requested}
use Rattle.pegasus_commands.specs.code.CommandSpec.{CommandSpec}
use Rattle.pegasus_commands.specs.code.Course.{documents}
use Rattle.pegasus_commands.specs.code.Fault.{Answer}
use Rattle.pegasus_commands.specs.code.InputSpec.{InputSpec, over}

-- This is a request, with a survey of its documents.
pub record IsSurveyed (r : Requested) (s : Surveyed) : Type 0 where
  pub request : s.request ≡ r.request
  pub survey : IsSurvey r.request r.documents s.survey

-- a request and the documents that it names, surveyed
abbrev pub survey_of : List ℕ → InputSpec
survey_of name = record {
  Given = Requested;
  course = documents name;
  requested = λ r. r;
  Inputs = Surveyed;
  Makes = IsSurveyed;
}

abbrev pub over_survey : List ℕ → (Work → Tools → Surveyed → List ℕ → Answer → Type 0)
    → (Work → Surveyed → Type 0) → CommandSpec
over_survey name = over (survey_of name)
