use Rattle.pegasus_commands.specs.code.Course.{documents, with_record}
use Rattle.pegasus_commands.proofs.CourseLemmas.{step_stop, step_then}
use Rattle.pegasus_commands.proofs.course.fetch_with_record.Goals as goal

pub returns-in-Ok-clause-answer : goal.returns-in-Ok-clause-answer
returns-in-Ok-clause-answer g c = step_then (documents c.args.name.now) (with_record c.args.history.now) _ _ _ c.in-Ok.requested c.fetch_record.result c.in-Ok.ensures.answer c.fetch_record.ensures.answer

pub returns-in-Err-clause-answer : goal.returns-in-Err-clause-answer
returns-in-Err-clause-answer g c = step_stop (documents c.args.name.now) (with_record c.args.history.now) _ _ c.in-Err.fault c.in-Err.ensures.answer
