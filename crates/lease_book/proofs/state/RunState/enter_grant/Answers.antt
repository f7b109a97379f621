use Rattle.std.proofs.Common.{refl}
use Rattle.lease_rules.specs.State.{after}
use Rattle.run_record.specs.Events.{Grant}
use Rattle.lease_book.specs.RunState.{state_of}
use Rattle.lease_book.proofs.StateLemmas.{peaks_after, state_after}
use Rattle.lease_book.proofs.state.RunState.enter_grant.Goals as goal

pub enter_grant-requires-clause-can : goal.enter_grant-requires-clause-can
enter_grant-requires-clause-can c = record { state = state_of c.args.self.now; worker = c.args.worker; tied = c.requires.peaks.tied; allowed = c.requires.allowed }

pub returns-clause-state : goal.returns-clause-state
returns-clause-state c = state_after c.args.plan.now (after c.args.plan.now (state_of c.args.self.now) (Grant c.args.worker c.args.task)) (record c.args.self.now { standing = c.start.new.standing; holders = c.set_number.new.numbers; peaks = c.enter_grant.new.self }) (c.enter_grant.ensures (state_of c.args.self.now) c.args.worker c.requires.peaks.tied c.requires.allowed) c.start.ensures.phase c.set_number.ensures.value (λ t. refl) (λ t. refl) c.start.ensures.held refl

pub returns-clause-peaks : goal.returns-clause-peaks
returns-clause-peaks c =
    let tied = c.enter_grant.ensures (state_of c.args.self.now) c.args.worker c.requires.peaks.tied c.requires.allowed in
    peaks_after c.args.plan.now (after c.args.plan.now (state_of c.args.self.now) (Grant c.args.worker c.args.task)) (record c.args.self.now { standing = c.start.new.standing; holders = c.set_number.new.numbers; peaks = c.enter_grant.new.self }) (state_after c.args.plan.now (after c.args.plan.now (state_of c.args.self.now) (Grant c.args.worker c.args.task)) (record c.args.self.now { standing = c.start.new.standing; holders = c.set_number.new.numbers; peaks = c.enter_grant.new.self }) tied c.start.ensures.phase c.set_number.ensures.value (λ t. refl) (λ t. refl) c.start.ensures.held refl) tied c.requires.peaks.links
