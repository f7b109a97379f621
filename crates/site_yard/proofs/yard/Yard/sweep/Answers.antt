use Rattle.std.proofs.Common.{ap, refl, ◌∙◌, ◌-◌, length, []}
use Rattle.std.specs.Prelude.{slice_get}
use Rattle.run_record.specs.Events.{Clean}
use Rattle.run_record.specs.code.Events.{Log}
use Rattle.lease_book.specs.Book.{failure, is_tried_again, state_at}
use Rattle.site_yard.specs.code.Leased.{failed_as}
use Rattle.site_yard.proofs.ListLemmas.{list_still, none_fails}
use Rattle.site_yard.proofs.LoanLemmas.{book_laws}
use Rattle.site_yard.proofs.NextLemmas.{grown}
use Rattle.site_yard.proofs.SettledLemmas.{tells_by}
use Rattle.site_yard.proofs.SweepLemmas.{sweep_answers, sweep_keeps, sweep_stops, swept_tells}
use Rattle.site_yard.proofs.yard.Yard.sweep.Goals as goal

pub invariant_of-self-clause-begun : goal.invariant_of-self-clause-begun
invariant_of-self-clause-begun g c =
    let y = c.args.self.now in
    grown y.book.history.events _ (Clean c.args.worker c.args.task.0) y.opened y.begun c.clean.ensures.history

pub invariant_of-self-clause-kept : goal.invariant_of-self-clause-kept
invariant_of-self-clause-kept g c =
    let y = c.args.self.now in
    rw (c.clean.ensures.history, c.clean.ensures.plan, c.clean.ensures.order, c.in-Ok.ensures.marked)
    (sweep_keeps y.book _ g.T.Tool.apply y.opened _ _ _ y.faults y.misses _ _ c.args.worker c.args.task.0 c.args.pair c.plan.ensures (book_laws y.book c.plan_laws.ensures c.record_laws.ensures) y.begun y.kept c.requires.kind c.in-Ok.ensures.later c.in-Ok.ensures.answer)

pub invariant_of-self-clause-listed : goal.invariant_of-self-clause-listed
invariant_of-self-clause-listed g c =
    let y = c.args.self.now in
    rw (c.clean.ensures.history, c.clean.ensures.plan, c.in-Ok.ensures.marked)
    (list_still g.T.Tool.apply y.book.plan y.book.history.events y.opened (Clean c.args.worker c.args.task.0) (g.H.Host.told y.host) _ _ y.delivered.items y.begun refl (tells_by _ _ _ c.in-Ok.ensures.answer.0) y.listed)

pub invariant_of-self-in-Err-clause-begun : goal.invariant_of-self-in-Err-clause-begun
invariant_of-self-in-Err-clause-begun g c =
    let y = c.args.self.now in
    grown y.book.history.events _ (failure y.book.plan (state_at y.book) c.args.worker c.args.task.0 c.in-Err.cause []) y.opened y.begun c.fail.ensures.history

pub invariant_of-self-in-Err-clause-kept : goal.invariant_of-self-in-Err-clause-kept
invariant_of-self-in-Err-clause-kept g c =
    let y = c.args.self.now in
    rw (c.fail.ensures.history, c.fail.ensures.plan, c.fail.ensures.order, c.in-Err.ensures.marked)
    (sweep_stops y.book _ g.T.Tool.apply y.opened (g.H.Host.told y.host) _ _ y.faults y.misses (g.H.Host.counts y.host) _ c.args.worker c.args.task c.args.pair c.in-Err.cause c.plan.ensures (book_laws y.book c.plan_laws.ensures c.record_laws.ensures) y.kept c.requires.choice c.requires.kind c.in-Err.ensures.later c.in-Err.ensures.answer y.begun)

pub invariant_of-self-in-Err-clause-listed : goal.invariant_of-self-in-Err-clause-listed
invariant_of-self-in-Err-clause-listed g c =
    let y = c.args.self.now in
    rw (c.fail.ensures.history, c.fail.ensures.plan, c.in-Err.ensures.marked)
    (list_still g.T.Tool.apply y.book.plan y.book.history.events y.opened (failure y.book.plan (state_at y.book) c.args.worker c.args.task.0 c.in-Err.cause []) (g.H.Host.told y.host) _ _ y.delivered.items y.begun (none_fails y.book.plan (is_tried_again y.book.plan (state_at y.book) c.args.task.0 c.in-Err.cause) c.args.worker c.args.task.0 c.in-Err.cause []) (swept_tells _ _ _ _ (g.H.Host.counts y.host) (g.H.Host.counts c.sweep_pair.new.host) c.in-Err.cause c.in-Err.ensures.answer) y.listed)

pub returns-in-Err-clause-leased : goal.returns-in-Err-clause-leased
returns-in-Err-clause-leased g c =
    let y = c.args.self.now in
    sweep_answers y.book _ g.T.Tool.apply y.opened (g.H.Host.told y.host) _ _ y.faults y.misses (g.H.Host.counts y.host) _ c.args.worker c.args.task c.args.pair c.in-Err.cause c.plan.ensures (book_laws y.book c.plan_laws.ensures c.record_laws.ensures) y.kept c.requires.choice c.requires.kind c.in-Err.ensures.later c.in-Err.ensures.answer _ _ c.fail.ensures.history (c.failed.ensures ∙ ap (λ (l : Log). failed_as c.args.task (slice_get l.events (length l.events - 1))) c.record.ensures.value)
