use Rattle.std.proofs.Common.{◌∙◌, ap, length}
use Rattle.run_record.specs.code.Events.{Log}
use Rattle.lease_book.specs.declared.book.Book.{Book}
use Rattle.worker_gate.proofs.TellingLemmas.{told_as_seen}
use Rattle.worker_gate.proofs.TurningLemmas.{lend_adds}
use Rattle.worker_gate.proofs.telling.lend_told.Goals as goal

pub returns-clause-entered : goal.returns-clause-entered
returns-clause-entered g c =
    let y = c.args.yard.now in
    let z = c.lend-lent.new.self in
    let e = c.lend-lent.ensures in
    let many = c.len-before.ensures.events ∙ ap (λ (h : Log). length h.events) c.record.ensures.value ∙ ap (λ (b : Book). length b.history.events) c.book.ensures in
    let is = ap (λ (h : Log). h.events) c.record-2.ensures.value ∙ ap (λ (b : Book). b.history.events) c.book-2.ensures in
    told_as_seen c.args.worker y.book.history.events z.book.history.events c.record-2.result.now.events c.len-before.result (g.G.Gate.told c.args.gate.now) (g.G.Gate.told c.tell.new.gate) many is
    (lend_adds _ c.args.worker c.args.task.0 y.book.history.events z.book.history.events (g.H.Host.told y.host) (g.H.Host.counts y.host) (g.H.Host.counts z.host) c.lend-lent.result e.history e.none)
    c.tell.ensures.told
