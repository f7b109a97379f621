use Rattle.std.proofs.Common.{refl}
use Rattle.planner.proofs.CourseLemmas.{refuses_graph}
use Rattle.planner.proofs.course.survey.Goals as goal

pub returns-in-Err-build-clause-answer : goal.returns-in-Err-build-clause-answer
returns-in-Err-build-clause-answer c = rw c.from.ensures (refuses_graph _ _ _ c.in-Ok.read.workflow c.in-Err-build.fault c.in-Ok.ensures.answer refl c.in-Err-build.ensures.answer)
