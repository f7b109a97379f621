use Rattle.storage_simulation.proofs.DeterminedLemmas.{exceeds_same, never_both, order_same}
use Rattle.storage_simulation.proofs.order_law.order_is_determined.Goals as goal

pub returns : goal.returns
returns c = record { order = order_same; exceeds = exceeds_same; not_both = never_both }
