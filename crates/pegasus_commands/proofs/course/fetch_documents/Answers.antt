use Rattle.pegasus_commands.specs.code.Course.{document, named_documents, request_in_bytes}
use Rattle.pegasus_commands.proofs.CourseLemmas.{step_then}
use Rattle.pegasus_commands.proofs.course.fetch_documents.Goals as goal

pub returns-in-Ok-clause-answer : goal.returns-in-Ok-clause-answer
returns-in-Ok-clause-answer g c = step_then (document c.args.name.now request_in_bytes) named_documents _ _ _ c.in-Ok.request c.fetch_named.result c.in-Ok.ensures.answer c.fetch_named.ensures.answer
