use Rattle.std.proofs.Common.{◌∙◌, ap, length}
use Rattle.run_record.specs.code.Events.{Log}
use Rattle.lease_book.specs.declared.book.Book.{Book}
use Rattle.lease_book.specs.Book.{state_at}
use Rattle.worker_gate.proofs.TellingLemmas.{told_as_seen}
use Rattle.worker_gate.proofs.TurningLemmas.{lease_adds}
use Rattle.worker_gate.proofs.telling.lease_told.Goals as goal

pub returns-clause-told : goal.returns-clause-told
returns-clause-told g c =
    let y = c.args.yard.now in
    let z = c.lease-leased.new.self in
    let many = c.len-before.ensures.events ∙ ap (λ (h : Log). length h.events) c.record.ensures.value ∙ ap (λ (b : Book). length b.history.events) c.book.ensures in
    let is = ap (λ (h : Log). h.events) c.record-2.ensures.value ∙ ap (λ (b : Book). b.history.events) c.book-2.ensures in
    told_as_seen c.args.worker y.book.history.events z.book.history.events c.record-2.result.now.events c.len-before.result (g.G.Gate.told c.args.gate.now) (g.G.Gate.told c.tell.new.gate) many is
    (lease_adds y.ordered.value.plan (state_at y.book) c.args.worker y.book.history.events z.book.history.events (g.H.Host.told y.host) (g.H.Host.counts y.host) (g.H.Host.counts z.host) c.lease-leased.result c.lease-leased.ensures.leased)
    c.tell.ensures.told
