use Rattle.std.proofs.Common.{ap, ◌∙◌, sym}
use Rattle.lease_book.specs.RunState.{state_of}
use Rattle.storage_simulation.specs.Ordering.{Progress}
use Rattle.storage_simulation.specs.code.Ordering.{progress}
use Rattle.storage_simulation.specs.OrderLaw.{stated_order}
use Rattle.storage_simulation.specs.code.Front.{front_of}
use Rattle.lease_book.proofs.TrialLemmas.{candidate_standing}
use Rattle.lease_book.proofs.fresh.has_order.Goals as goal

pub returns-in-Ok-clause-gives : goal.returns-in-Ok-clause-gives
returns-in-Ok-clause-gives c = λ h.
    ap (λ (st : Progress). stated_order c.args.plan.now st) (sym (candidate_standing c.args.plan.now (state_of c.args.state.now) c.args.task c.args.trial.now c.requires.candidate.no_clean c.requires.tried.tried))
    ∙ c.order_is_a_function.ensures.order c.args.plan.now (progress c.args.trial.now.standing) (front_of c.order_from.new.bench.front) c.in-Ok.ensures.order

pub returns-in-Err-clause-none : goal.returns-in-Err-clause-none
returns-in-Err-clause-none c = λ h.
    ap (λ (st : Progress). stated_order c.args.plan.now st) (sym (candidate_standing c.args.plan.now (state_of c.args.state.now) c.args.task c.args.trial.now c.requires.candidate.no_clean c.requires.tried.tried))
    ∙ c.order_is_a_function.ensures.exceeds c.args.plan.now (progress c.args.trial.now.standing) c.in-Err.field-0 c.in-Err.ensures.exceeds
