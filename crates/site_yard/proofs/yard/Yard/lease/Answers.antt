use Rattle.std.proofs.Common.{refl, sym, ap, ◌∙◌}
use Rattle.plan_core.specs.Words.{kind}
use Rattle.site_yard.proofs.NextLemmas.{clean_is, next_begun, next_choice, next_keeps, next_leases}
use Rattle.site_yard.proofs.ListLemmas.{next_lists}
use Rattle.site_yard.proofs.yard.Yard.lease.Goals as goal

pub invariant_of-self-clause-kept : goal.invariant_of-self-clause-kept
invariant_of-self-clause-kept g c =
    let y = c.args.self.now in
    rw (c.next.ensures.plan, c.next.ensures.order) (next_keeps g.T.Tool.apply y.book.plan _ _ c.args.worker c.next.result y.book.history.events _ y.opened _ _ y.faults y.misses _ y.begun c.next.ensures.next y.kept)

pub sweep-requires-clause-choice : goal.sweep-requires-clause-choice
sweep-requires-clause-choice g c =
    let y = c.args.self.now in
    let clean = clean_is y.book.plan c.in-Task.task.0 c.in-Some.pair (ap (λ p. kind p c.in-Task.task.0) (sym (c.plan.ensures ∙ c.next.ensures.plan)) ∙ c.in-Some.ensures) in
    next_choice y.book c.next.new.self c.args.worker c.in-Task.task.0 c.next.ensures.plan (ap (λ o. o.items) c.next.ensures.order) clean c.in-Task.ensures.next

pub returns-in-Some-clause-leased : goal.returns-in-Some-clause-leased
returns-in-Some-clause-leased g c =
    let y = c.args.self.now in
    let clean = clean_is y.book.plan c.in-Task.task.0 c.in-Some.pair (ap (λ p. kind p c.in-Task.task.0) (sym (c.plan.ensures ∙ c.next.ensures.plan)) ∙ c.in-Some.ensures) in
    next_leases y.book c.next.new.self y.ordered.value.plan c.args.worker c.in-Task.task.0 _ _ _ _ c.sweep.result y.same_plan c.next.ensures.plan (ap (λ o. o.items) c.next.ensures.order) clean c.in-Task.ensures.next c.sweep.ensures.leased

pub returns-in-NotYet-clause-leased : goal.returns-in-NotYet-clause-leased
returns-in-NotYet-clause-leased g c =
    let h = c.in-NotYet.ensures.next in
    rw (sym c.args.self.now.same_plan) (h.0, h.1, h.2, h.3, h.4, refl)

pub invariant_of-self-clause-listed : goal.invariant_of-self-clause-listed
invariant_of-self-clause-listed g c =
    let y = c.args.self.now in
    rw c.next.ensures.plan (next_lists g.T.Tool.apply y.book.plan _ c.args.worker c.next.result y.book.history.events _ y.opened _ _ y.delivered.items y.begun c.next.ensures.next y.listed)

pub invariant_of-self-clause-begun : goal.invariant_of-self-clause-begun
invariant_of-self-clause-begun g c =
    let y = c.args.self.now in
    next_begun y.book.plan _ c.args.worker c.next.result y.book.history.events _ y.opened y.begun c.next.ensures.next
