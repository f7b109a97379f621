use Rattle.std.proofs.Common.{ℕ, ap, cond, ◌∙◌}
use Rattle.plan_core.specs.Words.{cleans}
use Rattle.storage_simulation.specs.declared.standing.Held.{Held}
use Rattle.storage_simulation.specs.declared.standing.Held.TheVariants.{Nothing}
use Rattle.storage_simulation.specs.declared.standing.Phase.{Phase}
use Rattle.lease_book.proofs.holding.clean.Goals as goal

pub returns-clause-phase : goal.returns-clause-phase
returns-clause-phase c = λ t. ap (λ (f : ℕ → Phase). f t) c.sweep.ensures.phase ∙ c.set_phase.ensures.phase t

pub returns-clause-held : goal.returns-clause-held
returns-clause-held c = λ g. c.sweep.ensures.held g ∙ ap (λ (f : ℕ → Held). cond (cleans c.args.plan.now c.args.task g) Nothing (f g)) c.set_phase.ensures.held
