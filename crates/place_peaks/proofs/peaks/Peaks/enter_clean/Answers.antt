use Rattle.std.proofs.Common.{nat_eq, ◌||◌, sym, subst, ap}
use Rattle.lease_rules.specs.State.{after}
use Rattle.plan_core.specs.Numbers.{has}
use Rattle.plan_core.specs.Words.{parents}
use Rattle.run_record.specs.Events.{Clean}
use Rattle.place_peaks.specs.Ready.{but_one}
use Rattle.place_peaks.proofs.ReadyLemmas.{both_indexed, children_indexed, rising_after, small_with, swept_again_but, swept_but, tied_with, with_both}
use Rattle.place_peaks.proofs.ChoosingLemmas.{behind_none}
use Rattle.place_peaks.proofs.EntryLemmas.{choice_marked, clean_again_tied, clean_end, clean_room, clean_room_again, clean_tied, first_only}
use Rattle.place_peaks.specs.declared.peaks.Peaks.{Peaks}
use Rattle.place_peaks.specs.Ready.{AreSmall, HasGroups}
use Rattle.place_peaks.proofs.peaks.Peaks.enter_clean.Goals as goal

pub clean_in_line-requires-clause-ends : goal.clean_in_line-requires-clause-ends
clean_in_line-requires-clause-ends c = clean_end c.args.plan.now c.requires.can.enters.state c.args.self.now c.args.task c.requires.can.enters.tied c.requires.can.enters.allowed.2

pub clean_in_line-requires-clause-task : goal.clean_in_line-requires-clause-task
clean_in_line-requires-clause-task c = choice_marked c.args.plan.now c.requires.can.enters.state c.args.self.now c.args.task c.requires.can.enters.tied c.requires.can.enters.allowed.2

pub clean_in_line-requires-clause-frees : goal.clean_in_line-requires-clause-frees
clean_in_line-requires-clause-frees c = λ q home.
    clean_room c.args.plan.now c.requires.can.enters.state c.args.self.now c.args.task q c.args.frees c.requires.limits (λ size front place small. c.sums_are_small.ensures c.args.plan.now size front place c.requires.limits small)
    (behind_none c.args.plan.now c.requires.can.enters.state c.args.self.now c.in-None.ensures c.requires.can.enters.tied.behind) c.requires.can.enters.allowed.1 c.requires.can.enters.allowed.2 c.requires.can.frees home

pub clean_on_stack-requires-clause-ends : goal.clean_on_stack-requires-clause-ends
clean_on_stack-requires-clause-ends c = clean_end c.args.plan.now c.requires.can.enters.state c.args.self.now c.args.task c.requires.can.enters.tied c.requires.can.enters.allowed.2

pub clean_on_stack-requires-clause-first : goal.clean_on_stack-requires-clause-first
clean_on_stack-requires-clause-first c = first_only c.args.plan.now c.requires.can.enters.state c.args.self.now c.args.task c.in-Some.field-0 c.requires.can.enters.tied.behind c.in-Some.ensures c.requires.can.enters.allowed.2

pub clean_on_stack-requires-clause-frees : goal.clean_on_stack-requires-clause-frees
clean_on_stack-requires-clause-frees c = λ q home.
    clean_room_again c.args.plan.now c.requires.can.enters.state c.args.self.now c.args.task q c.args.frees c.requires.can.enters.tied.behind
    (first_only c.args.plan.now c.requires.can.enters.state c.args.self.now c.args.task c.in-Some.field-0 c.requires.can.enters.tied.behind c.in-Some.ensures c.requires.can.enters.allowed.2) c.requires.can.enters.allowed.1 c.requires.can.frees home

pub refresh-requires-clause-groups : goal.refresh-requires-clause-groups
refresh-requires-clause-groups c = subst (HasGroups c.args.plan.now) (sym c.clean_in_line.ensures.same) c.requires.can.enters.tied.indexed.grouped

pub refresh-requires-clause-small : goal.refresh-requires-clause-small
refresh-requires-clause-small c = subst AreSmall (sym c.clean_in_line.ensures.same) (λ u. c.requires.can.enters.tied.indexed.small u)

pub refresh_children-requires-clause-small : goal.refresh_children-requires-clause-small
refresh_children-requires-clause-small c = small_with c.clean_in_line.new.self c.refresh.new.self c.refresh.ensures.same (subst AreSmall (sym c.clean_in_line.ensures.same) (λ u. c.requires.can.enters.tied.indexed.small u))

pub refresh_children-requires-in-Some-clause-groups : goal.refresh_children-requires-in-Some-clause-groups
refresh_children-requires-in-Some-clause-groups c = subst (HasGroups c.args.plan.now) (sym c.clean_on_stack.ensures.swept.same) c.requires.can.enters.tied.indexed.grouped

pub refresh_children-requires-in-Some-clause-small : goal.refresh_children-requires-in-Some-clause-small
refresh_children-requires-in-Some-clause-small c = subst AreSmall (sym c.clean_on_stack.ensures.swept.same) (λ u. c.requires.can.enters.tied.indexed.small u)

pub returns-in-None : goal.returns-in-None
returns-in-None c = λ s w tied allowed frees.
    let is = c.clean_in_line.ensures in
    let same = with_both c.clean_in_line.new.self c.refresh.new.self c.refresh_children.new.self c.refresh.ensures.same c.refresh_children.ensures.same in
    tied_with c.args.plan.now (after c.args.plan.now s (Clean w c.args.task)) c.clean_in_line.new.self c.refresh_children.new.self
    (clean_tied c.args.plan.now s c.args.self.now c.clean_in_line.new.self w c.args.task c.args.frees tied c.in-None.ensures allowed (c.parents_stand_once.ensures c.args.plan.now c.requires.proper) frees is) same
    (both_indexed c.args.plan.now c.clean_in_line.new.self c.refresh_children.new.self c.args.task (subst AreSmall (sym is.same) (λ u. tied.indexed.small u)) (rising_after c.args.self.now c.clean_in_line.new.self (ap (λ (b : Peaks). b.seating) is.same) tied.indexed.rising)
    same c.refresh_children.ensures.groups
    (c.refresh_children.ensures.indexed (but_one (λ u. nat_eq u c.args.task || has (parents c.args.plan.now u) c.args.task) c.args.task)
    (c.refresh.ensures.indexed (λ u. nat_eq u c.args.task || has (parents c.args.plan.now u) c.args.task) (swept_but c.args.plan.now c.args.self.now c.clean_in_line.new.self c.args.task c.args.frees tied.indexed is))))

pub returns-in-Some : goal.returns-in-Some
returns-in-Some c = λ s w tied allowed frees.
    let is = c.clean_on_stack.ensures.swept in
    tied_with c.args.plan.now (after c.args.plan.now s (Clean w c.args.task)) c.clean_on_stack.new.self c.refresh_children-in-Some.new.self
    (clean_again_tied c.args.plan.now s c.args.self.now c.clean_on_stack.new.self w c.args.task c.args.frees tied allowed (c.parents_stand_once.ensures c.args.plan.now c.requires.proper) frees is c.clean_on_stack.ensures.stack c.clean_on_stack.ensures.room) c.refresh_children-in-Some.ensures.same
    (children_indexed c.args.plan.now c.clean_on_stack.new.self c.refresh_children-in-Some.new.self c.args.task (subst AreSmall (sym is.same) (λ u. tied.indexed.small u)) (rising_after c.args.self.now c.clean_on_stack.new.self (ap (λ (b : Peaks). b.seating) is.same) tied.indexed.rising)
    c.refresh_children-in-Some.ensures.same c.refresh_children-in-Some.ensures.groups
    (c.refresh_children-in-Some.ensures.indexed (λ u. has (parents c.args.plan.now u) c.args.task) (swept_again_but c.args.plan.now c.args.self.now c.clean_on_stack.new.self c.args.task c.args.frees tied.indexed is)))
