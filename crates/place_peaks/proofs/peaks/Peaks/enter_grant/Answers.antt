use Rattle.std.proofs.Common.{nat_eq, sym, subst, ap}
use Rattle.lease_rules.specs.State.{after}
use Rattle.run_record.specs.Events.{Grant}
use Rattle.place_peaks.proofs.ReadyLemmas.{granted_again_indexed, granted_but, one_indexed, rising_after, tied_with}
use Rattle.place_peaks.proofs.ChoosingLemmas.{behind_none}
use Rattle.place_peaks.proofs.EntryLemmas.{choice_marked, first_only, grant_again_tied, grant_room, grant_tied}
use Rattle.place_peaks.proofs.PossibleLemmas.{can_hold_first}
use Rattle.place_peaks.specs.declared.peaks.Peaks.{Peaks}
use Rattle.place_peaks.specs.Ready.{AreSmall, HasGroups}
use Rattle.place_peaks.proofs.peaks.Peaks.enter_grant.Goals as goal

pub grant_in_line-requires-clause-task : goal.grant_in_line-requires-clause-task
grant_in_line-requires-clause-task c = choice_marked c.args.plan.now c.requires.can.state c.args.self.now c.args.task c.requires.can.tied c.requires.can.allowed.2

pub grant_in_line-requires-clause-room : goal.grant_in_line-requires-clause-room
grant_in_line-requires-clause-room c = λ q home.
    grant_room c.args.plan.now c.requires.can.state c.args.self.now c.requires.can.worker c.args.task q c.requires.limits (λ size front place small. c.sums_are_small.ensures c.args.plan.now size front place c.requires.limits small)
    (behind_none c.args.plan.now c.requires.can.state c.args.self.now c.in-None.ensures c.requires.can.tied.behind) c.requires.can.allowed home

pub grant_on_stack-requires-clause-first : goal.grant_on_stack-requires-clause-first
grant_on_stack-requires-clause-first c = first_only c.args.plan.now c.requires.can.state c.args.self.now c.args.task c.in-Some.field-0 c.requires.can.tied.behind c.in-Some.ensures c.requires.can.allowed.2

pub grant_on_stack-requires-clause-room : goal.grant_on_stack-requires-clause-room
grant_on_stack-requires-clause-room c = λ q home.
    can_hold_first c.args.plan.now c.requires.can.state c.args.self.now c.args.task q c.requires.limits (λ size front place small. c.sums_are_small.ensures c.args.plan.now size front place c.requires.limits small) c.requires.can.tied.behind
    (first_only c.args.plan.now c.requires.can.state c.args.self.now c.args.task c.in-Some.field-0 c.requires.can.tied.behind c.in-Some.ensures c.requires.can.allowed.2) c.requires.can.allowed.1 home

pub refresh-requires-clause-groups : goal.refresh-requires-clause-groups
refresh-requires-clause-groups c = subst (HasGroups c.args.plan.now) (sym c.grant_in_line.ensures.same) c.requires.can.tied.indexed.grouped

pub refresh-requires-clause-small : goal.refresh-requires-clause-small
refresh-requires-clause-small c = subst AreSmall (sym c.grant_in_line.ensures.same) (λ u. c.requires.can.tied.indexed.small u)

pub returns-in-None : goal.returns-in-None
returns-in-None c = λ s w tied allowed.
    let is = c.grant_in_line.ensures in
    tied_with c.args.plan.now (after c.args.plan.now s (Grant w c.args.task)) c.grant_in_line.new.self c.refresh.new.self (grant_tied c.args.plan.now s c.args.self.now c.grant_in_line.new.self w c.args.task tied c.in-None.ensures allowed is) c.refresh.ensures.same
    (one_indexed c.args.plan.now c.grant_in_line.new.self c.refresh.new.self c.args.task (subst AreSmall (sym is.same) (λ u. tied.indexed.small u)) (rising_after c.args.self.now c.grant_in_line.new.self (ap (λ (b : Peaks). b.seating) is.same) tied.indexed.rising)
    c.refresh.ensures.same c.refresh.ensures.groups (c.refresh.ensures.indexed (λ u. nat_eq u c.args.task) (granted_but c.args.plan.now c.args.self.now c.grant_in_line.new.self c.args.task tied.indexed is)))

pub returns-in-Some : goal.returns-in-Some
returns-in-Some c = λ s w tied allowed.
    let is = c.grant_on_stack.ensures.granted in
    let trees = grant_again_tied c.args.plan.now s c.args.self.now c.grant_on_stack.new.self w c.args.task tied allowed is c.grant_on_stack.ensures.stack c.grant_on_stack.ensures.stack_room in
    record { behind = trees.behind; whole = trees.whole; indexed = granted_again_indexed c.args.plan.now c.args.self.now c.grant_on_stack.new.self c.args.task tied.indexed is }
