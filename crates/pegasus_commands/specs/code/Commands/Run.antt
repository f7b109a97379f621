-- `run`: plans, and runs the plan with several workers, each in a thread of its own. It prints the record of the run and
-- what was delivered.
use Rattle.std.specs.Prelude.{◌⊎◌, ℕ, List}
use Rattle.planner.specs.declared.surveyed.Surveyed.{Surveyed}
use Rattle.plan_run.specs.Moments.{Tools, Work}
use Rattle.pegasus_commands.specs.code.CommandSpec.{CommandSpec}
use Rattle.pegasus_commands.specs.code.Fault.{Answer}
use Rattle.pegasus_commands.specs.code.PlanRun.{CanRun, HasRunPlan, IsUnrun}
use Rattle.pegasus_commands.specs.code.Survey.{over_survey}

abbrev pub RunsMany : ℕ → Work → Tools → Surveyed → List ℕ → Answer → Type 0
RunsMany workers w t s text answer = IsUnrun w t s text answer ⊎ ∥ HasRunPlan w t workers s text answer ∥₁

abbrev pub run : List ℕ → ℕ → CommandSpec
run name workers = over_survey name (RunsMany workers) CanRun
