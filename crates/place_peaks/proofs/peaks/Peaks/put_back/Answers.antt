use Rattle.std.proofs.Common.{nat_eq, sym, subst, ap}
use Rattle.lease_rules.specs.State.{after}
use Rattle.run_record.specs.Events.{Again}
use Rattle.place_peaks.proofs.ReadyLemmas.{moved_but, one_indexed, rising_after, tied_with}
use Rattle.place_peaks.proofs.ChoosingLemmas.{behind_none}
use Rattle.place_peaks.proofs.EntryLemmas.{choice_marked, clean_room, move_room, move_tied, stay_tied}
use Rattle.place_peaks.proofs.WaitingLemmas.{clean_choice}
use Rattle.place_peaks.specs.declared.peaks.Peaks.{Peaks}
use Rattle.place_peaks.specs.Ready.{AreSmall, HasGroups}
use Rattle.place_peaks.proofs.peaks.Peaks.put_back.Goals as goal

pub move_to_stack-requires-clause-task : goal.move_to_stack-requires-clause-task
move_to_stack-requires-clause-task c =
    let can = c.requires.can.enters in
    choice_marked c.args.plan.now can.state c.args.self.now c.args.task can.tied (clean_choice c.args.plan.now can.state can.worker c.args.task can.tied.behind.sound c.requires.kind can.allowed.1)

pub move_to_stack-requires-clause-frees : goal.move_to_stack-requires-clause-frees
move_to_stack-requires-clause-frees c = λ q home.
    let can = c.requires.can.enters in
    (clean_room c.args.plan.now can.state c.args.self.now c.args.task q c.args.frees c.requires.limits (λ size front place small. c.sums_are_small.ensures c.args.plan.now size front place c.requires.limits small)
    (behind_none c.args.plan.now can.state c.args.self.now c.in-None.ensures can.tied.behind) c.requires.kind (clean_choice c.args.plan.now can.state can.worker c.args.task can.tied.behind.sound c.requires.kind can.allowed.1) c.requires.can.frees home).sweeps

pub move_to_stack-requires-clause-room : goal.move_to_stack-requires-clause-room
move_to_stack-requires-clause-room c =
    let can = c.requires.can.enters in
    move_room c.args.plan.now can.state c.args.self.now c.args.task can.tied c.in-None.ensures (clean_choice c.args.plan.now can.state can.worker c.args.task can.tied.behind.sound c.requires.kind can.allowed.1)

pub refresh-requires-clause-groups : goal.refresh-requires-clause-groups
refresh-requires-clause-groups c = subst (HasGroups c.args.plan.now) (sym c.move_to_stack.ensures.moved.same) c.requires.can.enters.tied.indexed.grouped

pub refresh-requires-clause-small : goal.refresh-requires-clause-small
refresh-requires-clause-small c = subst AreSmall (sym c.move_to_stack.ensures.moved.same) (λ u. c.requires.can.enters.tied.indexed.small u)

pub returns-in-None : goal.returns-in-None
returns-in-None c = λ s w cause ns tied allowed frees.
    let is = c.move_to_stack.ensures.moved in
    tied_with c.args.plan.now (after c.args.plan.now s (Again w c.args.task cause ns)) c.move_to_stack.new.self c.refresh.new.self
    (move_tied c.args.plan.now s c.args.self.now c.move_to_stack.new.self w c.args.task c.args.frees cause ns tied c.in-None.ensures c.requires.kind allowed frees is c.move_to_stack.ensures.stack c.move_to_stack.ensures.room) c.refresh.ensures.same
    (one_indexed c.args.plan.now c.move_to_stack.new.self c.refresh.new.self c.args.task (subst AreSmall (sym is.same) (λ u. tied.indexed.small u)) (rising_after c.args.self.now c.move_to_stack.new.self (ap (λ (b : Peaks). b.seating) is.same) tied.indexed.rising)
    c.refresh.ensures.same c.refresh.ensures.groups (c.refresh.ensures.indexed (λ u. nat_eq u c.args.task) (moved_but c.args.plan.now c.args.self.now c.move_to_stack.new.self c.args.task c.args.frees tied.indexed is)))

pub returns-in-Some : goal.returns-in-Some
returns-in-Some c = λ s w cause ns tied allowed frees. stay_tied c.args.plan.now s c.args.self.now w c.args.task c.in-Some.field-0 cause ns tied c.in-Some.ensures c.requires.kind allowed
