use Rattle.evaluation.proofs.FinishLemmas.{only_memory}
use Rattle.evaluation.proofs.law.evaluations_finish.Goals as goal

pub returns : goal.returns
returns c = only_memory
