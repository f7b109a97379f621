use Rattle.std.proofs.Common.{[], ap, drop, subst, sym, take, ◌∙◌}
use Rattle.std.specs.Prelude.{IfErr, IfOk, is_some}
use Rattle.plan_core.specs.Words.{task_numbers}
use Rattle.lease_book.specs.Book.{failure, is_tried_again, state_at}
use Rattle.site_yard.specs.code.Failures.{AreMore}
use Rattle.site_yard.specs.code.Lending.{RefusesLoan, count_parts}
use Rattle.site_yard.proofs.KeptLemmas.{still_keeps}
use Rattle.site_yard.proofs.LendLemmas.{lend_adds, lend_keeps}
use Rattle.site_yard.proofs.LentLemmas.{lend_lends}
use Rattle.site_yard.proofs.ListLemmas.{list_still, list_told, none_fails}
use Rattle.site_yard.proofs.LoanLemmas.{book_laws, worker_low}
use Rattle.site_yard.proofs.NextLemmas.{grown}
use Rattle.site_yard.proofs.PartLemmas.{if_ok_both, none_if_err, some_if_none, some_if_ok}
use Rattle.site_yard.proofs.yard.Yard.lend.Goals as goal
use Rattle.site_yard.proofs.yard.Yard.lend.Goals.{in-Err, in_default}

pub fail-requires-clause-worker : goal.fail-requires-clause-worker
fail-requires-clause-worker g c = worker_low c.args.self.now.book c.args.worker c.args.task.0 c.requires.open

pub invariant_of-self-clause-begun : goal.invariant_of-self-clause-begun
invariant_of-self-clause-begun g c =
    let y = c.args.self.now in
    grown y.book.history.events _ (failure y.book.plan (state_at y.book) c.args.worker c.args.task.0 c.in-Err.cause []) y.opened y.begun c.fail.ensures.history

pub invariant_of-self-clause-kept : goal.invariant_of-self-clause-kept
invariant_of-self-clause-kept g c =
    let y = c.args.self.now in
    let made = c.make_loan-made in
    let st = g.H.Host.counts in
    let refused = subst (λ r. IfErr r (RefusesLoan c.plan.result.now c.args.task.0 (g.H.Host.told y.host) (st y.host) (st made.new.host))) c.in-Err.is made.ensures.refused in
    rw (c.fail.ensures.history, c.fail.ensures.plan, c.fail.ensures.order, made.ensures.marked)
    (lend_keeps y.book _ g.T.Tool.apply y.opened (g.H.Host.told y.host) (g.H.Host.told made.new.host) (g.H.Host.marked y.host) y.faults y.misses (st y.host) (st made.new.host) c.args.worker c.args.task.0 c.in-Err.cause c.plan.ensures (book_laws y.book c.plan_laws.ensures c.record_laws.ensures) y.kept c.requires.open made.ensures.later refused y.begun made.ensures.told)

pub invariant_of-self-clause-listed : goal.invariant_of-self-clause-listed
invariant_of-self-clause-listed g c =
    let y = c.args.self.now in
    let made = c.make_loan-made in
    rw (c.fail.ensures.history, c.fail.ensures.plan, made.ensures.marked)
    (list_still g.T.Tool.apply y.book.plan y.book.history.events y.opened (failure y.book.plan (state_at y.book) c.args.worker c.args.task.0 c.in-Err.cause []) (g.H.Host.told y.host) (g.H.Host.told made.new.host) (g.H.Host.marked y.host) y.delivered.items y.begun (none_fails y.book.plan (is_tried_again y.book.plan (state_at y.book) c.args.task.0 c.in-Err.cause) c.args.worker c.args.task.0 c.in-Err.cause []) (ap is_some made.ensures.told) y.listed)

pub invariant_of-self-in_default-clause-kept : goal.invariant_of-self-in_default-clause-kept
invariant_of-self-in_default-clause-kept g c =
    let y = c.args.self.now in
    let made = c.make_loan-made in
    let st = g.H.Host.counts in
    let asked = subst (λ r. IfOk r (λ l. AreMore (count_parts c.plan.result.now c.args.task.0) 0 0 (st y.host) (st made.new.host))) c.in_default.is made.ensures.asked in
    rw made.ensures.marked
    (still_keeps g.T.Tool.apply y.book.plan (task_numbers y.book.order.items) (take y.opened y.book.history.events) (drop y.opened y.book.history.events) (g.H.Host.told y.host) (g.H.Host.told made.new.host) (g.H.Host.marked y.host) y.faults y.misses (count_parts c.plan.result.now c.args.task.0) (st y.host) (st made.new.host) y.kept made.ensures.told asked made.ensures.later)

pub invariant_of-self-in_default-clause-listed : goal.invariant_of-self-in_default-clause-listed
invariant_of-self-in_default-clause-listed g c =
    let y = c.args.self.now in
    let made = c.make_loan-made in
    rw made.ensures.marked
    (list_told g.T.Tool.apply y.book.plan (take y.opened y.book.history.events) (drop y.opened y.book.history.events) (g.H.Host.told y.host) (g.H.Host.told made.new.host) (g.H.Host.marked y.host) y.delivered.items (ap is_some made.ensures.told) y.listed)

pub returns-clause-lent : goal.returns-clause-lent
returns-clause-lent g c =
    let y = c.args.self.now in
    let made = c.make_loan-made in
    rw (sym (c.plan.ensures ∙ y.same_plan))
    (some_if_ok made.result c.ok.result _ c.ok.ensures.value
    (if_ok_both made.result _ _ _ (λ l readings drafts.
    lend_lends y.book _ g.T.Tool.apply y.opened (g.H.Host.told y.host) (g.H.Host.marked y.host) y.faults y.misses (g.H.Host.counts y.host) c.args.worker c.args.task.0 _ _ (sym c.plan.ensures) (book_laws y.book c.plan_laws.ensures c.record_laws.ensures) c.requires.open y.kept readings drafts) made.ensures.readings made.ensures.drafts))

pub returns-clause-none : goal.returns-clause-none
returns-clause-none g c =
    let y = c.args.self.now in
    let made = c.make_loan-made in
    let st = g.H.Host.counts in
    elim c.match-made.branch [
      | in-Err w ↦
          let refused = subst (λ r. IfErr r (RefusesLoan c.plan.result.now c.args.task.0 (g.H.Host.told y.host) (st y.host) (st made.new.host))) w.in-Err.is made.ensures.refused in
          none_if_err made.result c.ok.result _ _ c.ok.ensures.value w.in-Err.is
          (rw (w.self-is, sym y.same_plan)
          (lend_adds y.book _ g.T.Tool.apply y.opened (g.H.Host.told y.host) (g.H.Host.told made.new.host) (g.H.Host.marked y.host) y.faults y.misses (st y.host) (st made.new.host) c.args.worker c.args.task.0 w.in-Err.cause c.plan.ensures (book_laws y.book c.plan_laws.ensures c.record_laws.ensures) y.kept c.requires.open made.ensures.later refused _ w.fail.ensures.history))
      | in_default w ↦ some_if_none made.result c.ok.result w.in_default.field-0 _ c.ok.ensures.value w.in_default.is
    ]
