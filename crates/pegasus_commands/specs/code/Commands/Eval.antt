-- `eval`: tells the values of the requested files, by file number. It delivers nothing.
use Rattle.std.specs.Prelude.{◌≡◌, ℕ, ◌+◌, ◌≤◌, List, [], length, Some, None, Ok, Err}
use Rattle.planner.specs.declared.surveyed.Surveyed.{Surveyed}
use Rattle.evaluation.specs.Evaluating.{AllDefined, HasNoValues, HasValues}
use Rattle.evaluation.specs.Moments.{Meeting, Moment, Subject, subject}
use Rattle.evaluation.specs.ValueLines.{Valued, value_lines}
use Rattle.evaluation.specs.declared.fault.EvaluationFault.{EvaluationFault}
use Rattle.plan_run.specs.Moments.{Tools, Work, WorkMoment}
use Rattle.pegasus_commands.specs.declared.fault.CallFault.{CallFault}
use Rattle.pegasus_commands.specs.declared.fault.CallFault.TheVariants.{Memory}
use Rattle.pegasus_commands.specs.code.CommandSpec.{CommandSpec}
use Rattle.pegasus_commands.specs.code.Fault.{Answer, value_answer}
use Rattle.pegasus_commands.specs.code.Survey.{over_survey}

-- what an evaluation meets of a command's work
abbrev pub moment_of : WorkMoment → Moment
moment_of m = record { told = m.told; counts = m.counts; tool = m.tool }

abbrev pub meeting_of : Work → Meeting
meeting_of w = record {
  apply = w.apply;
  known = w.known;
  before = moment_of w.before;
  after = moment_of w.after;
}

-- what is evaluated of a survey
abbrev pub subject_of : Surveyed → Subject
subject_of s = subject s.survey.workflow s.survey.graph.ordered s.survey.replicas.entries s.request.tools

-- this is the answer for what kept the evaluation from values
pub record IsUnvalued (w : Work) (s : Surveyed) (answer : CallFault) : Type 0 where
  pub fault : EvaluationFault
  pub comes : HasNoValues (meeting_of w) (subject_of s) fault
  pub answers : answer ≡ value_answer fault

-- When each answer comes, and the text before its line.
abbrev pub Says : Work → Surveyed → List ℕ → Answer → Type 0
Says w s text (Ok None) = (all : List Valued) × HasValues (meeting_of w) (subject_of s) all
    × (text ≡ value_lines all)
Says w s text (Ok (Some given)) = ⊥
Says w s text (Err Memory) = Unit {0}
Says w s text (Err fault) = IsUnvalued w s fault × (text ≡ [])

-- it writes nothing to the host, runs its tool at most once for each job and tells its gate nothing, and says what the
-- requested files are worth
pub record Evaluates (w : Work) (t : Tools) (s : Surveyed) (text : List ℕ) (answer : Answer) : Type 0 where
  -- the host tells what it told, whatever the answer
  pub same : w.after.told ≡ w.before.told
  pub runs : w.after.runs ≤ w.before.runs + length s.survey.graph.ordered
  pub entered : w.after.entered ≡ w.before.entered
  pub says : Says w s text answer

abbrev pub CanEvaluate : Work → Surveyed → Type 0
CanEvaluate w s = AllDefined (meeting_of w) (subject_of s)

abbrev pub eval : List ℕ → CommandSpec
eval name = over_survey name Evaluates CanEvaluate
