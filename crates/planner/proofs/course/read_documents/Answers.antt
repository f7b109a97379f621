use Rattle.planner.proofs.CourseLemmas.{fails_at_last}
use Rattle.planner.proofs.course.read_documents.Goals as goal

pub returns-in-Err-check_execution_sites-clause-answer : goal.returns-in-Err-check_execution_sites-clause-answer
returns-in-Err-check_execution_sites-clause-answer c =
    let listed = rw c.as_slice.ensures at (rw c.as_slice-2.ensures at c.in-Err-check_execution_sites.ensures) in
    fails_at_last c.args.request.now c.args.documents.now _ _ _ _ c.in-Err-check_execution_sites.fault c.in_ok-workflow.ensures.answer c.in-Ok.ensures.answer c.in-Ok-replicas_in.ensures.answer c.in-Ok-transformations_in.ensures.answer listed
