use Rattle.plan_core.proofs.LawLemmas.{proper_is_grounded}
use Rattle.plan_core.proofs.law.ways_back_end.Goals as goal

pub returns : goal.returns
returns c = proper_is_grounded
