use Rattle.std.proofs.Common.{refl}
use Rattle.lease_rules.specs.State.{after}
use Rattle.run_record.specs.Events.{Clean}
use Rattle.lease_book.specs.RunState.{state_of}
use Rattle.lease_book.proofs.StateLemmas.{peaks_after, state_after}
use Rattle.lease_book.proofs.state.RunState.enter_clean.Goals as goal

pub enter_clean-requires-clause-can : goal.enter_clean-requires-clause-can
enter_clean-requires-clause-can c = record {
  enters = record { state = state_of c.args.self.now; worker = c.args.worker; tied = c.requires.peaks.tied; allowed = c.requires.allowed };
  frees = c.frees-frees.ensures;
}

pub returns-clause-state : goal.returns-clause-state
returns-clause-state c = state_after c.args.plan.now (after c.args.plan.now (state_of c.args.self.now) (Clean c.args.worker c.args.task)) (record c.args.self.now { standing = c.clean.new.standing; peaks = c.enter_clean.new.self }) (c.enter_clean.ensures (state_of c.args.self.now) c.args.worker c.requires.peaks.tied c.requires.allowed c.frees-frees.ensures) c.clean.ensures.phase (λ t. refl) (λ t. refl) (λ t. refl) c.clean.ensures.held refl

pub returns-clause-peaks : goal.returns-clause-peaks
returns-clause-peaks c =
    let tied = c.enter_clean.ensures (state_of c.args.self.now) c.args.worker c.requires.peaks.tied c.requires.allowed c.frees-frees.ensures in
    peaks_after c.args.plan.now (after c.args.plan.now (state_of c.args.self.now) (Clean c.args.worker c.args.task)) (record c.args.self.now { standing = c.clean.new.standing; peaks = c.enter_clean.new.self }) (state_after c.args.plan.now (after c.args.plan.now (state_of c.args.self.now) (Clean c.args.worker c.args.task)) (record c.args.self.now { standing = c.clean.new.standing; peaks = c.enter_clean.new.self }) tied c.clean.ensures.phase (λ t. refl) (λ t. refl) (λ t. refl) c.clean.ensures.held refl) tied c.requires.peaks.links
