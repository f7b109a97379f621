use Rattle.std.proofs.Common.{refl}
use Rattle.lease_rules.specs.State.{after}
use Rattle.run_record.specs.Events.{End}
use Rattle.lease_book.specs.RunState.{state_of}
use Rattle.lease_book.proofs.StateLemmas.{peaks_after, state_after}
use Rattle.lease_book.proofs.state.RunState.enter_end.Goals as goal

pub enter_end-requires-clause-can : goal.enter_end-requires-clause-can
enter_end-requires-clause-can c = record { state = state_of c.args.self.now; worker = c.args.worker; tied = c.requires.peaks.tied; allowed = c.requires.allowed }

pub returns-clause-state : goal.returns-clause-state
returns-clause-state c = state_after c.args.plan.now (after c.args.plan.now (state_of c.args.self.now) (End c.args.worker c.args.task c.args.sizes.now)) (record c.args.self.now { standing = c.end.new.standing; peaks = c.enter_end.new.self }) (c.enter_end.ensures (state_of c.args.self.now) c.args.worker c.requires.peaks.tied c.requires.allowed) c.end.ensures.phase (λ t. refl) (λ t. refl) (λ t. refl) c.end.ensures.held refl

pub returns-clause-peaks : goal.returns-clause-peaks
returns-clause-peaks c =
    let tied = c.enter_end.ensures (state_of c.args.self.now) c.args.worker c.requires.peaks.tied c.requires.allowed in
    peaks_after c.args.plan.now (after c.args.plan.now (state_of c.args.self.now) (End c.args.worker c.args.task c.args.sizes.now)) (record c.args.self.now { standing = c.end.new.standing; peaks = c.enter_end.new.self }) (state_after c.args.plan.now (after c.args.plan.now (state_of c.args.self.now) (End c.args.worker c.args.task c.args.sizes.now)) (record c.args.self.now { standing = c.end.new.standing; peaks = c.enter_end.new.self }) tied c.end.ensures.phase (λ t. refl) (λ t. refl) (λ t. refl) c.end.ensures.held refl) tied c.requires.peaks.links
