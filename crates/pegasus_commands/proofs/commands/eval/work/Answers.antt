use Rattle.pegasus_commands.specs.code.Commands.Eval.{CanEvaluate, Evaluates}
use Rattle.std.proofs.Common.{refl}
use Rattle.pegasus_commands.specs.code.Survey.{survey_of}
use Rattle.pegasus_commands.proofs.InputSpecLemmas.{has_worked, is_stopped}
use Rattle.pegasus_commands.proofs.commands.eval.work.Goals as goal

pub returns-in-Err : goal.returns-in-Err
returns-in-Err g c = λ told t first. is_stopped (survey_of c.args.name.now) Evaluates CanEvaluate _ _ _ c.in-Err.fault c.in-Err.ensures c.at_once.ensures.answer refl (first refl refl refl) c.at_once.ensures.text

pub returns-in-Ok : goal.returns-in-Ok
returns-in-Ok g c = λ told t first. has_worked (survey_of c.args.name.now) Evaluates CanEvaluate _ _ _ c.in-Ok.surveyed c.in-Ok.ensures (c.values_text-told.ensures told t)
