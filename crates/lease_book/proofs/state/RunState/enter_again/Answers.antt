use Rattle.std.proofs.Common.{refl}
use Rattle.lease_rules.specs.State.{after}
use Rattle.run_record.specs.Events.{Again}
use Rattle.lease_book.specs.RunState.{state_of}
use Rattle.lease_book.proofs.StateLemmas.{peaks_after, state_after}
use Rattle.lease_book.proofs.state.RunState.enter_again.Goals as goal

pub enter_again-requires-clause-can : goal.enter_again-requires-clause-can
enter_again-requires-clause-can c = record {
  cause = c.args.cause.now;
  published = c.args.published.now;
  enters = record { state = state_of c.args.self.now; worker = c.args.worker; tied = c.requires.peaks.tied; allowed = c.requires.allowed };
  frees = c.frees-frees.ensures;
}

pub returns-clause-state : goal.returns-clause-state
returns-clause-state c = state_after c.args.plan.now (after c.args.plan.now (state_of c.args.self.now) (Again c.args.worker c.args.task c.args.cause.now c.args.published.now)) (record c.args.self.now { agains = c.set_number.new.numbers; standing = c.wait_again.new.standing; peaks = c.enter_again.new.self }) (c.enter_again.ensures (state_of c.args.self.now) c.args.worker c.args.cause.now c.args.published.now c.requires.peaks.tied c.requires.allowed c.frees-frees.ensures) c.wait_again.ensures.phase (λ t. refl) (rw c.agains-count.ensures at c.set_number.ensures.value) (λ t. refl) c.wait_again.ensures.held refl

pub returns-clause-peaks : goal.returns-clause-peaks
returns-clause-peaks c =
    let tied = c.enter_again.ensures (state_of c.args.self.now) c.args.worker c.args.cause.now c.args.published.now c.requires.peaks.tied c.requires.allowed c.frees-frees.ensures in
    peaks_after c.args.plan.now (after c.args.plan.now (state_of c.args.self.now) (Again c.args.worker c.args.task c.args.cause.now c.args.published.now)) (record c.args.self.now { agains = c.set_number.new.numbers; standing = c.wait_again.new.standing; peaks = c.enter_again.new.self }) (state_after c.args.plan.now (after c.args.plan.now (state_of c.args.self.now) (Again c.args.worker c.args.task c.args.cause.now c.args.published.now)) (record c.args.self.now { agains = c.set_number.new.numbers; standing = c.wait_again.new.standing; peaks = c.enter_again.new.self }) tied c.wait_again.ensures.phase (λ t. refl) (rw c.agains-count.ensures at c.set_number.ensures.value) (λ t. refl) c.wait_again.ensures.held refl) tied c.requires.peaks.links
