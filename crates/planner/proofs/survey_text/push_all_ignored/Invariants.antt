use Rattle.std.proofs.Common.{◌≡◌, ◌++◌, drop}
use Rattle.planner.specs.code.SurveyText.{ignored_lines}
use Rattle.planner.proofs.survey_text.push_all_ignored.Given as goal

abbrev pub invariant-loop-path : goal.invariant-loop-path
invariant-loop-path l =
    l.text.items ++ ignored_lines l.which (drop l.path-index l.paths) ≡ l.fn.text.items ++ ignored_lines l.which l.paths
