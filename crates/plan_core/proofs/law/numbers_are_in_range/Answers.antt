use Rattle.plan_core.proofs.LawLemmas.{pair_in_range, kind_in_range}
use Rattle.plan_core.proofs.law.numbers_are_in_range.Goals as goal

pub returns-clause-pairs : goal.returns-clause-pairs
returns-clause-pairs c = pair_in_range

pub returns-clause-kinds : goal.returns-clause-kinds
returns-clause-kinds c = kind_in_range
