use Rattle.storage_simulation.proofs.OrderLawLemmas.{exceeds_is, order_is}
use Rattle.storage_simulation.proofs.order_law.order_is_a_function.Goals as goal

pub returns : goal.returns
returns c = record { order = order_is; exceeds = exceeds_is }
