use Rattle.std.proofs.Common.{refl}
use Rattle.lease_rules.specs.State.{after}
use Rattle.run_record.specs.Events.{Regrant}
use Rattle.lease_book.specs.RunState.{state_of}
use Rattle.lease_book.proofs.StateLemmas.{peaks_after, shown_after, state_after}
use Rattle.lease_book.proofs.state.RunState.enter_regrant.Goals as goal

pub enter_regrant-requires-clause-can : goal.enter_regrant-requires-clause-can
enter_regrant-requires-clause-can c = record {
  state = state_of c.args.self.now;
  worker = c.args.worker;
  tied = c.requires.peaks.tied;
  allowed = c.requires.allowed;
  order = c.requires.order;
  shown = shown_after c.args.plan.now (state_of c.args.self.now) c.args.self.now.peaks c.args.worker c.args.task _ c.requires.limits c.requires.peaks.tied c.requires.allowed c.start.ensures.long c.start.ensures.phase c.start.ensures.held;
}

pub enter_regrant-requires-clause-room : goal.enter_regrant-requires-clause-room
enter_regrant-requires-clause-room c = c.requires.room.levels

pub returns-clause-state : goal.returns-clause-state
returns-clause-state c = state_after c.args.plan.now (after c.args.plan.now (state_of c.args.self.now) (Regrant c.args.worker c.args.task)) (record c.args.self.now { standing = c.start.new.standing; holders = c.set_number.new.numbers; peaks = c.enter_regrant.new.self; levels = c.enter_regrant.new.levels }) (c.enter_regrant.ensures.tied (state_of c.args.self.now) c.args.worker c.requires.peaks.tied c.requires.allowed c.requires.order (shown_after c.args.plan.now (state_of c.args.self.now) c.args.self.now.peaks c.args.worker c.args.task _ c.requires.limits c.requires.peaks.tied c.requires.allowed c.start.ensures.long c.start.ensures.phase c.start.ensures.held)) c.start.ensures.phase c.set_number.ensures.value (λ t. refl) (λ t. refl) c.start.ensures.held refl

pub returns-clause-peaks : goal.returns-clause-peaks
returns-clause-peaks c =
    let tied = c.enter_regrant.ensures.tied (state_of c.args.self.now) c.args.worker c.requires.peaks.tied c.requires.allowed c.requires.order (shown_after c.args.plan.now (state_of c.args.self.now) c.args.self.now.peaks c.args.worker c.args.task _ c.requires.limits c.requires.peaks.tied c.requires.allowed c.start.ensures.long c.start.ensures.phase c.start.ensures.held) in
    peaks_after c.args.plan.now (after c.args.plan.now (state_of c.args.self.now) (Regrant c.args.worker c.args.task)) (record c.args.self.now { standing = c.start.new.standing; holders = c.set_number.new.numbers; peaks = c.enter_regrant.new.self; levels = c.enter_regrant.new.levels }) (state_after c.args.plan.now (after c.args.plan.now (state_of c.args.self.now) (Regrant c.args.worker c.args.task)) (record c.args.self.now { standing = c.start.new.standing; holders = c.set_number.new.numbers; peaks = c.enter_regrant.new.self; levels = c.enter_regrant.new.levels }) tied c.start.ensures.phase c.set_number.ensures.value (λ t. refl) (λ t. refl) c.start.ensures.held refl) tied c.requires.peaks.links
