use Rattle.plan_core.proofs.LawLemmas.{once, in_order}
use Rattle.plan_core.proofs.law.pairs_stand_once.Goals as goal

pub returns-clause-once : goal.returns-clause-once
returns-clause-once c = once

pub returns-clause-in_order : goal.returns-clause-in_order
returns-clause-in_order c = in_order
