use Rattle.pegasus_commands.specs.code.Course.{all_documents, with_request}
use Rattle.pegasus_commands.proofs.CourseLemmas.{step_end, step_stop, step_then}
use Rattle.pegasus_commands.proofs.course.fetch_named.Goals as goal

pub returns-in-Ok-clause-answer : goal.returns-in-Ok-clause-answer
returns-in-Ok-clause-answer g c = step_then (all_documents c.args.request) (with_request c.args.request) _ _ _ _ _ c.in-Ok.ensures (step_end _ _)

pub returns-in-Err-clause-answer : goal.returns-in-Err-clause-answer
returns-in-Err-clause-answer g c = step_stop (all_documents c.args.request) (with_request c.args.request) _ _ c.in-Err.fault c.in-Err.ensures
