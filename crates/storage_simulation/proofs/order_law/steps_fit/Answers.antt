use Rattle.storage_simulation.proofs.OrderLawLemmas.{made_all, made_fits}
use Rattle.storage_simulation.proofs.order_law.steps_fit.Goals as goal

pub returns : goal.returns
returns c = record { fits = made_fits; all = made_all }
