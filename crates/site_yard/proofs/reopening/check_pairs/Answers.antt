use Rattle.std.proofs.Common.{◌∙◌, ap, arith, length}
use Rattle.lease_book.specs.Book.{state_at}
use Rattle.site_yard.proofs.PartLemmas.{later_both}
use Rattle.site_yard.proofs.ReopenLemmas.{check_stops, still_recorded}
use Rattle.site_yard.proofs.reopening.check_pairs.Goals as goal

pub loop-k-preserved : goal.loop-k-preserved
loop-k-preserved g c =
    let i = c.loop-k.invariant in
    let st = g.H.Host.counts in
    let more = still_recorded c.args.plan.now (state_at c.args.book.now).held (g.H.Host.told c.args.host.now) (g.H.Host.told c.loop-k.host) c.loop-k.k (st c.args.host.now) (st c.loop-k.host) (st c.check_pair.new.host) i.0 i.3 i.4 c.in-Ok.ensures.answer c.check_pair.ensures.later in
    (c.check_pair.ensures.told ∙ i.0, c.check_pair.ensures.marked ∙ i.1, later_both (st c.args.host.now) (st c.loop-k.host) (st c.check_pair.new.host) i.2 c.check_pair.ensures.later, more.0, more.1)

pub returns-in-Err-clause-answer : goal.returns-in-Err-clause-answer
returns-in-Err-clause-answer g c =
    let i = c.loop-k.invariant in
    let st = g.H.Host.counts in
    let same = ap length c.as_slice-k-end.ensures in
    check_stops c.args.plan.now (state_at c.args.book.now).held (g.H.Host.told c.args.host.now) (g.H.Host.told c.loop-k.host) c.loop-k.k (st c.args.host.now) (st c.loop-k.host) (st c.check_pair.new.host) c.in-Err.fault (omega (arith, same, c.loop-k-test.true)) i.0 i.3 i.4 c.in-Err.ensures.answer c.check_pair.ensures.later
