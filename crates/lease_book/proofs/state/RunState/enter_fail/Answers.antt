use Rattle.std.proofs.Common.{refl, true}
use Rattle.lease_rules.specs.State.{after}
use Rattle.run_record.specs.Events.{Fail}
use Rattle.lease_book.specs.RunState.{state_of}
use Rattle.lease_book.proofs.StateLemmas.{peaks_after, state_after}
use Rattle.lease_book.proofs.state.RunState.enter_fail.Goals as goal

pub returns-clause-state : goal.returns-clause-state
returns-clause-state c = state_after c.args.plan.now (after c.args.plan.now (state_of c.args.self.now) (Fail c.args.worker c.args.task c.args.cause.now c.args.published.now)) (record c.args.self.now { failed = c.set_flag.new.flags; failing = true }) (c.fails_keep_peaks.ensures.tied c.args.plan.now (state_of c.args.self.now) c.args.self.now.peaks c.args.worker c.args.task c.args.cause.now c.args.published.now c.requires.peaks.tied c.requires.allowed) (λ t. refl) (λ t. refl) (λ t. refl) c.set_flag.ensures.value (λ g. refl) refl

pub returns-clause-peaks : goal.returns-clause-peaks
returns-clause-peaks c =
    let tied = c.fails_keep_peaks.ensures.tied c.args.plan.now (state_of c.args.self.now) c.args.self.now.peaks c.args.worker c.args.task c.args.cause.now c.args.published.now c.requires.peaks.tied c.requires.allowed in
    peaks_after c.args.plan.now (after c.args.plan.now (state_of c.args.self.now) (Fail c.args.worker c.args.task c.args.cause.now c.args.published.now)) (record c.args.self.now { failed = c.set_flag.new.flags; failing = true }) (state_after c.args.plan.now (after c.args.plan.now (state_of c.args.self.now) (Fail c.args.worker c.args.task c.args.cause.now c.args.published.now)) (record c.args.self.now { failed = c.set_flag.new.flags; failing = true }) tied (λ t. refl) (λ t. refl) (λ t. refl) c.set_flag.ensures.value (λ g. refl) refl) tied c.requires.peaks.links
