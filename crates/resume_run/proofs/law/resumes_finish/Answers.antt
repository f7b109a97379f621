use Rattle.resume_run.proofs.FinishingLemmas.{resume_finishes}
use Rattle.resume_run.proofs.law.resumes_finish.Goals as goal

pub returns : goal.returns
returns c = resume_finishes c.nothing_else_fails.ensures.since
