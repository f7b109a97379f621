use Rattle.resume_run.proofs.FailsLemmas.{legal_without}
use Rattle.resume_run.proofs.law.records_without_fails_are_legal.Goals as goal

pub returns : goal.returns
returns c = legal_without
