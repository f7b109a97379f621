use Rattle.std.proofs.Common.{refl}
use Rattle.pegasus_commands.specs.code.Commands.Resume.{CanResume, ResumesPlan}
use Rattle.pegasus_commands.specs.code.Recorded.{record_of}
use Rattle.pegasus_commands.proofs.InputSpecLemmas.{has_worked, is_stopped}
use Rattle.pegasus_commands.proofs.commands.resume.work.Goals as goal

pub returns-in-Err-clause-does : goal.returns-in-Err-clause-does
returns-in-Err-clause-does g c = rw c.unrun.ensures.host (is_stopped (record_of c.args.name.now c.args.history.now) ResumesPlan CanResume _ _ _ c.in-Err.fault c.in-Err.ensures c.unrun.ensures.answer refl refl c.unrun.ensures.text)

pub returns-in-Ok-clause-does : goal.returns-in-Ok-clause-does
returns-in-Ok-clause-does g c = has_worked (record_of c.args.name.now c.args.history.now) ResumesPlan CanResume _ _ _ c.in-Ok.recorded c.in-Ok.ensures c.resume_recorded.ensures.works
