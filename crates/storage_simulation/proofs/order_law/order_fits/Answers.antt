use Rattle.storage_simulation.proofs.StepsLemmas.{fits_steps, once_steps}
use Rattle.storage_simulation.proofs.order_law.order_fits.Goals as goal

pub returns : goal.returns
returns c = record { fits = fits_steps; once = once_steps }
