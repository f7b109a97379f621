use Rattle.pegasus_commands.proofs.RequestLemmas.{request_fails}
use Rattle.pegasus_commands.proofs.course.request_in.Goals as goal

pub returns-in-Err-clause-answer : goal.returns-in-Err-clause-answer
returns-in-Err-clause-answer c = rw (c.of_plan_fault.ensures, c.of_read_fault.ensures) (request_fails c.args.bytes.now c.in-Err.fault (rw c.as_slice.ensures at c.in-Err.ensures.answer))
