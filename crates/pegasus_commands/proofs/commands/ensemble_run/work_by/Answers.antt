use Rattle.std.proofs.Common.{refl}
use Rattle.pegasus_commands.specs.code.Commands.Run.{RunsMany}
use Rattle.pegasus_commands.proofs.EnsembleRunLemmas.{ensemble_by_works, ensemble_stops}
use Rattle.pegasus_commands.proofs.commands.ensemble_run.work_by.Goals as goal

pub returns-in-Err-clause-does : goal.returns-in-Err-clause-does
returns-in-Err-clause-does g c = rw c.unrun.ensures.host (ensemble_stops c.args.name.now (RunsMany c.args.workers) _ _ _ c.in-Err.fault c.in-Err.ensures.stops c.unrun.ensures.answer refl refl c.unrun.ensures.text)

pub returns-in-Ok-clause-does : goal.returns-in-Ok-clause-does
returns-in-Ok-clause-does g c = ensemble_by_works c.args.name.now c.args.workers _ _ _ c.in-Ok.surveyed c.in-Ok.ensures.joined c.run_survey.ensures.works
