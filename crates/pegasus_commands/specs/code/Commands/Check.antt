-- `check`: lists what the workflow has and what isn't acted on. It touches nothing.
use Rattle.std.specs.Prelude.{◌≡◌, ℕ, List, None, Ok, Err}
use Rattle.planner.specs.code.SurveyText.{check_lines}
use Rattle.planner.specs.declared.inputs.Survey.{Survey}
use Rattle.planner.specs.declared.surveyed.Surveyed.{Surveyed}
use Rattle.plan_run.specs.Moments.{Tools, Work}
use Rattle.pegasus_commands.specs.declared.fault.CallFault.TheVariants.{Memory}
use Rattle.pegasus_commands.specs.code.CommandSpec.{CommandSpec}
use Rattle.pegasus_commands.specs.code.Fault.{Answer}
use Rattle.pegasus_commands.specs.code.Survey.{over_survey}

abbrev pub Says : Survey → List ℕ → Answer → Type 0
Says s text (Ok None) = text ≡ check_lines s
Says s text (Err Memory) = Unit {0}
Says s text _ = ⊥

-- it changes nothing of the host, and says what was read
pub record Checks (w : Work) (t : Tools) (s : Surveyed) (text : List ℕ) (answer : Answer) : Type 0 where
  pub untouched : w.after ≡ w.before
  pub says : Says s.survey text answer

abbrev pub check : List ℕ → CommandSpec
check name = over_survey name Checks (λ w s. Unit {0})
