use Rattle.pegasus_commands.specs.code.Commands.Schedule.{HasSites, Schedules}
use Rattle.pegasus_commands.specs.code.Survey.{survey_of}
use Rattle.pegasus_commands.proofs.InputSpecLemmas.{has_worked, is_stopped}
use Rattle.pegasus_commands.proofs.commands.schedule.work.Goals as goal

pub returns-in-Err : goal.returns-in-Err
returns-in-Err g c = λ w t same unused. is_stopped (survey_of c.args.name.now) Schedules (λ w s. HasSites s) _ _ _ c.in-Err.fault c.in-Err.ensures c.at_once.ensures.answer same unused c.at_once.ensures.text

pub returns-in-Ok : goal.returns-in-Ok
returns-in-Ok g c = λ w t same unused. has_worked (survey_of c.args.name.now) Schedules (λ w s. HasSites s) _ _ _ c.in-Ok.surveyed c.in-Ok.ensures (record { untouched = same; says = c.scheduled-told.ensures })
