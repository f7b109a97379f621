use Rattle.std.proofs.Common.{refl}
use Rattle.pegasus_commands.specs.code.Commands.Alone.{RunsAlone}
use Rattle.pegasus_commands.proofs.EnsembleRunLemmas.{ensemble_stops, ensemble_works}
use Rattle.pegasus_commands.proofs.commands.ensemble_run.work.Goals as goal

pub returns-in-Err-clause-does : goal.returns-in-Err-clause-does
returns-in-Err-clause-does g c = rw c.unrun.ensures.host (λ t first. ensemble_stops c.args.name.now RunsAlone _ _ _ c.in-Err.fault c.in-Err.ensures.stops c.unrun.ensures.answer refl (first refl refl refl) c.unrun.ensures.text)

pub returns-in-Ok-clause-does : goal.returns-in-Ok-clause-does
returns-in-Ok-clause-does g c = λ t first. ensemble_works c.args.name.now _ _ _ c.in-Ok.surveyed c.in-Ok.ensures.joined (c.run_survey.ensures.works t)
