use Rattle.std.proofs.Common.{refl}
use Rattle.pegasus_commands.specs.code.Commands.Produce.{Produces}
use Rattle.pegasus_commands.specs.code.PlanRun.{CanRun}
use Rattle.pegasus_commands.proofs.NamesLemmas.{surveyed_names}
use Rattle.pegasus_commands.specs.code.Survey.{survey_of}
use Rattle.pegasus_commands.proofs.InputSpecLemmas.{has_worked, is_stopped}
use Rattle.pegasus_commands.proofs.commands.produce.work.Goals as goal

pub returns-in-Err-clause-does : goal.returns-in-Err-clause-does
returns-in-Err-clause-does g c = rw c.unrun.ensures.host (λ t first. is_stopped (survey_of c.args.name.now) Produces CanRun _ _ _ c.in-Err.fault c.in-Err.ensures c.unrun.ensures.answer refl (first refl refl refl) c.unrun.ensures.text)

pub returns-in-Ok-clause-does : goal.returns-in-Ok-clause-does
returns-in-Ok-clause-does g c = λ t first. has_worked (survey_of c.args.name.now) Produces CanRun _ _ _ c.in-Ok.surveyed c.in-Ok.ensures (c.run_survey.ensures.works t)

pub run_survey-requires : goal.run_survey-requires
run_survey-requires g c = record { named = surveyed_names _ _ c.in-Ok.surveyed.survey c.in-Ok.ensures.makes.survey }
