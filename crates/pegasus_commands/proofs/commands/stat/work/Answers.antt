use Rattle.pegasus_commands.specs.code.Commands.Audit.{CanJudge, Judges}
use Rattle.pegasus_commands.specs.code.Commands.Stat.{PrintsSums}
use Rattle.pegasus_commands.specs.code.Recorded.{record_of}
use Rattle.pegasus_commands.proofs.InputSpecLemmas.{has_worked, is_stopped}
use Rattle.pegasus_commands.proofs.commands.stat.work.Goals as goal

pub returns-in-Err : goal.returns-in-Err
returns-in-Err g c = λ w t same unused. is_stopped (record_of c.args.name.now c.args.history.now) (Judges PrintsSums) CanJudge _ _ _ c.in-Err.fault c.in-Err.ensures c.at_once.ensures.answer same unused c.at_once.ensures.text

pub returns-in-Ok : goal.returns-in-Ok
returns-in-Ok g c = λ w t same unused. has_worked (record_of c.args.name.now c.args.history.now) (Judges PrintsSums) CanJudge _ _ _ c.in-Ok.recorded c.in-Ok.ensures (record { untouched = same; says = c.judged_text-told.ensures })
