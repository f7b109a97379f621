use Rattle.std.proofs.Common.{ℕ, ap}
use Rattle.storage_simulation.specs.declared.standing.Held.{Held}
use Rattle.lease_book.proofs.holding.wait_again.Goals as goal

pub returns-clause-held : goal.returns-clause-held
returns-clause-held c = λ g. ap (λ (f : ℕ → Held). f g) c.set_phase.ensures.held
