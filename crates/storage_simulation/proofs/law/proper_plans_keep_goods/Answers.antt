use Rattle.storage_simulation.proofs.LawLemmas.{keeps_goods}
use Rattle.storage_simulation.proofs.law.proper_plans_keep_goods.Goals as goal

pub returns : goal.returns
returns c = keeps_goods c.parents_come_before.ensures.cleans c.parents_come_before.ensures.nothing c.files_are_listed_by_pair.ensures.in_range c.numbers_are_in_range.ensures.kinds
