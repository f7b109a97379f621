use Rattle.std.proofs.Common.{nat_eq, sym, ◌∙◌, subst, ap}
use Rattle.lease_rules.specs.State.{after}
use Rattle.run_record.specs.Events.{Again}
use Rattle.place_peaks.proofs.ReadyLemmas.{again_but, again_small, one_indexed, rising_after, tied_with}
use Rattle.place_peaks.proofs.EntryLemmas.{again_room, again_tied}
use Rattle.place_peaks.specs.declared.peaks.Peaks.{Peaks}
use Rattle.place_peaks.specs.Ready.{HasGroups}
use Rattle.place_peaks.proofs.peaks.Peaks.enter_again.Goals as goal

pub wait_on_stack-requires : goal.wait_on_stack-requires
wait_on_stack-requires c =
    let can = c.requires.can.enters in record {
      room = again_room c.args.plan.now can.state c.args.self.now can.worker c.args.task c.requires.can.cause c.requires.can.published can.tied (sym c.is_clean.ensures ∙ c.if-is_clean.false) can.allowed;
    }

pub refresh-requires-clause-groups : goal.refresh-requires-clause-groups
refresh-requires-clause-groups c = subst (HasGroups c.args.plan.now) (sym c.wait_on_stack.ensures.waits.same) c.requires.can.enters.tied.indexed.grouped

pub refresh-requires-clause-small : goal.refresh-requires-clause-small
refresh-requires-clause-small c = again_small c.args.self.now c.wait_on_stack.new.self c.args.task c.requires.can.enters.tied.indexed.small c.wait_on_stack.ensures.waits

pub returns-else-is_clean : goal.returns-else-is_clean
returns-else-is_clean c = λ s w cause ns tied allowed frees.
    let is = c.wait_on_stack.ensures.waits in
    tied_with c.args.plan.now (after c.args.plan.now s (Again w c.args.task cause ns)) c.wait_on_stack.new.self c.refresh.new.self
    (again_tied c.args.plan.now s c.args.self.now c.wait_on_stack.new.self w c.args.task cause ns tied (sym c.is_clean.ensures ∙ c.if-is_clean.false) allowed is c.wait_on_stack.ensures.stack c.wait_on_stack.ensures.room) c.refresh.ensures.same
    (one_indexed c.args.plan.now c.wait_on_stack.new.self c.refresh.new.self c.args.task (again_small c.args.self.now c.wait_on_stack.new.self c.args.task tied.indexed.small is) (rising_after c.args.self.now c.wait_on_stack.new.self (ap (λ (b : Peaks). b.seating) is.same) tied.indexed.rising)
    c.refresh.ensures.same c.refresh.ensures.groups (c.refresh.ensures.indexed (λ u. nat_eq u c.args.task) (again_but c.args.plan.now c.args.self.now c.wait_on_stack.new.self c.args.task tied.indexed is)))
