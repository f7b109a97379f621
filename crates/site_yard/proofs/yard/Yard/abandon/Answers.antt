use Rattle.std.proofs.Common.{[], ap, map, subst, sym, take, ◌∙◌}
use Rattle.std.specs.Prelude.{is_some}
use Rattle.lease_book.specs.Book.{failure, is_tried_again, state_at}
use Rattle.site_yard.specs.code.Kept.{IsOpening}
use Rattle.site_yard.specs.code.Yard.{IsTold}
use Rattle.site_yard.proofs.ListLemmas.{list_still, none_fails}
use Rattle.site_yard.proofs.LoanLemmas.{abandon_counted, abandoned, plain_keeps, worker_low}
use Rattle.site_yard.proofs.NextLemmas.{grown}
use Rattle.site_yard.proofs.PartLemmas.{later_both}
use Rattle.site_yard.proofs.yard.Yard.abandon.Goals as goal

pub fail-requires-clause-worker : goal.fail-requires-clause-worker
fail-requires-clause-worker g c = worker_low c.args.self.now.book c.args.worker c.args.task.0 c.requires.open

pub invariant_of-self-clause-begun : goal.invariant_of-self-clause-begun
invariant_of-self-clause-begun g c =
    let y = c.args.self.now in
    grown y.book.history.events _ (failure y.book.plan (state_at y.book) c.args.worker c.args.task.0 c.args.cause.now []) y.opened y.begun c.fail.ensures.history

pub invariant_of-self-clause-kept : goal.invariant_of-self-clause-kept
invariant_of-self-clause-kept g c =
    let y = c.args.self.now in
    let st = g.H.Host.counts in
    let rs = map g.H.Reading.ReadPart.state c.args.loan.readings.items in
    let ds = map g.H.Draft.WritePart.state c.args.loan.drafts.items in
    let more = abandoned rs ds (st y.host) (st c.finish_all.new.host) (st c.discard_all.new.host) c.finish_all.ensures.asked c.discard_all.ensures.asked c.discard_all.ensures.later in
    let later = later_both (st y.host) (st c.finish_all.new.host) (st c.discard_all.new.host) c.finish_all.ensures.later c.discard_all.ensures.later in
    rw (c.fail.ensures.history, c.fail.ensures.plan, c.fail.ensures.order, c.discard_all.ensures.marked, c.finish_all.ensures.marked)
    (plain_keeps g.T.Tool.apply y.book y.opened (g.H.Host.told y.host) (g.H.Host.told c.discard_all.new.host) (g.H.Host.marked y.host) y.faults y.misses (st y.host) (st c.discard_all.new.host) c.args.worker c.args.task.0 c.args.cause.now y.begun y.kept (c.discard_all.ensures.told ∙ c.finish_all.ensures.told)
    (subst (λ p. IsOpening g.T.Tool.apply p (take y.opened y.book.history.events) (g.H.Host.marked y.host) → IsTold g.T.Tool.apply p (g.H.Host.marked y.host) (g.H.Host.told y.host) c.args.task.0 c.args.cause.now) (sym y.same_plan) c.requires.told)
    (abandon_counted (g.H.Host.told y.host) rs ds (st y.host) (st c.discard_all.new.host) (is_tried_again y.book.plan (state_at y.book) c.args.task.0 c.args.cause.now) c.args.worker c.args.task.0 c.args.cause.now c.requires.kind c.requires.shown more later))

pub invariant_of-self-clause-listed : goal.invariant_of-self-clause-listed
invariant_of-self-clause-listed g c =
    let y = c.args.self.now in
    rw (c.fail.ensures.history, c.fail.ensures.plan, c.discard_all.ensures.marked, c.finish_all.ensures.marked)
    (list_still g.T.Tool.apply y.book.plan y.book.history.events y.opened (failure y.book.plan (state_at y.book) c.args.worker c.args.task.0 c.args.cause.now []) (g.H.Host.told y.host) (g.H.Host.told c.discard_all.new.host) (g.H.Host.marked y.host) y.delivered.items y.begun (none_fails y.book.plan (is_tried_again y.book.plan (state_at y.book) c.args.task.0 c.args.cause.now) c.args.worker c.args.task.0 c.args.cause.now []) (ap is_some (c.discard_all.ensures.told ∙ c.finish_all.ensures.told)) y.listed)

pub returns-clause-counted : goal.returns-clause-counted
returns-clause-counted g c =
    let y = c.args.self.now in
    let st = g.H.Host.counts in
    let rs = map g.H.Reading.ReadPart.state c.args.loan.readings.items in
    let ds = map g.H.Draft.WritePart.state c.args.loan.drafts.items in
    let more = abandoned rs ds (st y.host) (st c.finish_all.new.host) (st c.discard_all.new.host) c.finish_all.ensures.asked c.discard_all.ensures.asked c.discard_all.ensures.later in
    let later = later_both (st y.host) (st c.finish_all.new.host) (st c.discard_all.new.host) c.finish_all.ensures.later c.discard_all.ensures.later in
    rw (sym y.same_plan) (abandon_counted (g.H.Host.told y.host) rs ds (st y.host) (st c.discard_all.new.host) (is_tried_again y.book.plan (state_at y.book) c.args.task.0 c.args.cause.now) c.args.worker c.args.task.0 c.args.cause.now c.requires.kind c.requires.shown more later)

pub returns-clause-asked : goal.returns-clause-asked
returns-clause-asked g c =
    let y = c.args.self.now in
    let st = g.H.Host.counts in
    let rs = map g.H.Reading.ReadPart.state c.args.loan.readings.items in
    let ds = map g.H.Draft.WritePart.state c.args.loan.drafts.items in
    (abandoned rs ds (st y.host) (st c.finish_all.new.host) (st c.discard_all.new.host) c.finish_all.ensures.asked c.discard_all.ensures.asked c.discard_all.ensures.later).done_is
