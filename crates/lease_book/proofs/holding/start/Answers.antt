use Rattle.std.proofs.Common.{ℕ, ap, ◌∙◌}
use Rattle.storage_simulation.specs.declared.standing.Held.{Held}
use Rattle.storage_simulation.specs.declared.standing.Phase.{Phase}
use Rattle.lease_rules.specs.State.{reserved_for}
use Rattle.lease_book.proofs.holding.start.Goals as goal

pub returns-clause-phase : goal.returns-clause-phase
returns-clause-phase c = λ t. ap (λ (f : ℕ → Phase). f t) c.reserve.ensures.phase ∙ c.set_phase.ensures.phase t

pub returns-clause-held : goal.returns-clause-held
returns-clause-held c = λ g. c.reserve.ensures.held g ∙ ap (λ (f : ℕ → Held). reserved_for c.args.plan.now c.args.task f g) c.set_phase.ensures.held
