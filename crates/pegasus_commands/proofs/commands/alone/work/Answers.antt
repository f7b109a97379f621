use Rattle.std.proofs.Common.{refl}
use Rattle.pegasus_commands.specs.code.Commands.Alone.{RunsAlone}
use Rattle.pegasus_commands.specs.code.PlanRun.{CanRun}
use Rattle.pegasus_commands.specs.code.Survey.{survey_of}
use Rattle.pegasus_commands.proofs.InputSpecLemmas.{has_worked, is_stopped}
use Rattle.pegasus_commands.proofs.commands.alone.work.Goals as goal

pub returns-in-Err-clause-does : goal.returns-in-Err-clause-does
returns-in-Err-clause-does g c = rw c.unrun.ensures.host (λ t first. is_stopped (survey_of c.args.name.now) RunsAlone CanRun _ _ _ c.in-Err.fault c.in-Err.ensures c.unrun.ensures.answer refl (first refl refl refl) c.unrun.ensures.text)

pub returns-in-Ok-clause-does : goal.returns-in-Ok-clause-does
returns-in-Ok-clause-does g c = λ t first. has_worked (survey_of c.args.name.now) RunsAlone CanRun _ _ _ c.in-Ok.surveyed c.in-Ok.ensures (c.run_survey.ensures.works t)
