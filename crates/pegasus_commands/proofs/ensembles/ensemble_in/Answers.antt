use Rattle.pegasus_commands.proofs.EnsemblesLemmas.{ensemble_fails}
use Rattle.pegasus_commands.proofs.ensembles.ensemble_in.Goals as goal

pub returns-in-Err-clause-answer : goal.returns-in-Err-clause-answer
returns-in-Err-clause-answer c = rw c.of_ensemble_fault.ensures (ensemble_fails c.args.bytes.now c.in-Err.fault (rw c.as_slice.ensures at c.in-Err.ensures.answer))
