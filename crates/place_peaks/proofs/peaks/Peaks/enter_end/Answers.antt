use Rattle.std.proofs.Common.{sym, subst, ap}
use Rattle.lease_rules.specs.State.{after}
use Rattle.plan_core.specs.Numbers.{has}
use Rattle.plan_core.specs.Words.{parents}
use Rattle.run_record.specs.Events.{End}
use Rattle.place_peaks.proofs.ReadyLemmas.{children_indexed, rising_after, settled_but, tied_with}
use Rattle.place_peaks.proofs.EntryLemmas.{end_settles, end_tied}
use Rattle.place_peaks.specs.declared.peaks.Peaks.{Peaks}
use Rattle.place_peaks.specs.Ready.{AreSmall, HasGroups}
use Rattle.place_peaks.proofs.peaks.Peaks.enter_end.Goals as goal

pub settle_run-requires-clause-settles : goal.settle_run-requires-clause-settles
settle_run-requires-clause-settles c = end_settles c.args.plan.now c.args.links.now c.args.self.now c.args.task c.args.sizes.now c.requires.can

pub refresh_children-requires-clause-groups : goal.refresh_children-requires-clause-groups
refresh_children-requires-clause-groups c = subst (HasGroups c.args.plan.now) (sym c.settle_run.ensures.same) c.requires.can.tied.indexed.grouped

pub refresh_children-requires-clause-small : goal.refresh_children-requires-clause-small
refresh_children-requires-clause-small c = subst AreSmall (sym c.settle_run.ensures.same) (λ u. c.requires.can.tied.indexed.small u)

pub returns : goal.returns
returns c = λ s w tied allowed.
    let is = c.settle_run.ensures in
    tied_with c.args.plan.now (after c.args.plan.now s (End w c.args.task c.args.sizes.now)) c.settle_run.new.self c.refresh_children.new.self
    (end_tied c.args.plan.now s c.args.links.now c.args.self.now c.settle_run.new.self w c.args.task c.args.sizes.now tied c.requires.links (c.parents_stand_once.ensures c.args.plan.now c.requires.proper) allowed c.settle_run.ensures) c.refresh_children.ensures.same
    (children_indexed c.args.plan.now c.settle_run.new.self c.refresh_children.new.self c.args.task (subst AreSmall (sym is.same) (λ u. tied.indexed.small u)) (rising_after c.args.self.now c.settle_run.new.self (ap (λ (b : Peaks). b.seating) is.same) tied.indexed.rising)
    c.refresh_children.ensures.same c.refresh_children.ensures.groups
    (c.refresh_children.ensures.indexed (λ u. has (parents c.args.plan.now u) c.args.task) (settled_but c.args.plan.now c.args.links.now c.args.self.now c.settle_run.new.self c.args.task c.args.sizes.now tied.indexed is)))
