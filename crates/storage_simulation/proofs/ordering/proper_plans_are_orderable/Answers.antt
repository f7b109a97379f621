use Rattle.storage_simulation.proofs.OrderableLemmas.{orderable}
use Rattle.storage_simulation.proofs.ordering.proper_plans_are_orderable.Goals as goal

pub returns : goal.returns
returns c = orderable c.files_are_listed_by_pair.ensures.in_range c.numbers_are_in_range.ensures.kinds c.numbers_are_in_range.ensures.pairs c.parents_come_before.ensures.in_range c.proper_plans_keep_goods.ensures
