use Rattle.std.proofs.Common.{ℕ, ap, ◌∙◌}
use Rattle.storage_simulation.specs.declared.standing.Held.{Held}
use Rattle.storage_simulation.specs.declared.standing.Phase.{Phase}
use Rattle.storage_simulation.specs.Goods.{makes}
use Rattle.lease_rules.specs.State.{stored_among}
use Rattle.lease_book.proofs.holding.end.Goals as goal

pub returns-clause-phase : goal.returns-clause-phase
returns-clause-phase c = λ t. ap (λ (f : ℕ → Phase). f t) c.store_each.ensures.phase ∙ c.set_phase.ensures.phase t

pub returns-clause-held : goal.returns-clause-held
returns-clause-held c = λ g. c.store_each.ensures.held g ∙ ap (λ (f : ℕ → Held). stored_among (makes c.args.plan.now c.args.task) c.args.sizes.now g (f g)) c.set_phase.ensures.held
