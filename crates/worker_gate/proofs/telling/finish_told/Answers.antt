use Rattle.std.proofs.Common.{◌∙◌, ap, length}
use Rattle.run_record.specs.code.Events.{Log}
use Rattle.lease_book.specs.declared.book.Book.{Book}
use Rattle.worker_gate.specs.code.Tending.{failures_in}
use Rattle.worker_gate.proofs.TellingLemmas.{told_as_seen}
use Rattle.worker_gate.proofs.TendingLemmas.{ends_finishes}
use Rattle.worker_gate.proofs.TurningLemmas.{finishes_adds}
use Rattle.worker_gate.proofs.telling.finish_told.Goals as goal

pub returns-clause-told : goal.returns-clause-told
returns-clause-told g c =
    let y = c.args.yard.now in
    let z = c.finish_at.new.yard in
    let n = failures_in c.args.filled in
    let many = c.len-before.ensures.events ∙ ap (λ (h : Log). length h.events) c.record.ensures.value ∙ ap (λ (b : Book). length b.history.events) c.book.ensures in
    let is = ap (λ (h : Log). h.events) c.record-2.ensures.value ∙ ap (λ (b : Book). b.history.events) c.book-2.ensures in
    told_as_seen c.args.worker y.book.history.events z.book.history.events c.record-2.result.now.events c.len-before.result (g.G.Gate.told c.args.gate.now) (g.G.Gate.told c.tell.new.gate) many is
    (finishes_adds c.args.worker c.args.task.0 n y.book.history.events z.book.history.events (ends_finishes c.args.worker c.args.task.0 n y.book.history.events z.book.history.events c.finish_at.ensures.ends))
    c.tell.ensures.told
