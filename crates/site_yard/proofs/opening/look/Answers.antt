use Rattle.std.proofs.Common.{◌∙◌, ap, arith, length}
use Rattle.site_yard.proofs.OpenLemmas.{look_stops, still_looked}
use Rattle.site_yard.proofs.PartLemmas.{later_both}
use Rattle.site_yard.proofs.opening.look.Goals as goal

pub loop-k-preserved : goal.loop-k-preserved
loop-k-preserved g c =
    let i = c.loop-k.invariant in
    let st = g.H.Host.counts in
    let more = still_looked c.args.plan.now (g.H.Host.told c.args.host.now) (g.H.Host.told c.loop-k.host) c.loop-k.k (st c.args.host.now) (st c.loop-k.host) (st c.look_at.new.host) i.0 i.3 i.4 c.in-Ok.ensures.answer c.look_at.ensures.later in
    (c.look_at.ensures.told ∙ i.0, c.look_at.ensures.marked ∙ i.1, later_both (st c.args.host.now) (st c.loop-k.host) (st c.look_at.new.host) i.2 c.look_at.ensures.later, more.0, more.1)

pub returns-in-Err-clause-answer : goal.returns-in-Err-clause-answer
returns-in-Err-clause-answer g c =
    let i = c.loop-k.invariant in
    let st = g.H.Host.counts in
    let same = ap length c.as_slice-k-end.ensures in
    look_stops c.args.plan.now (g.H.Host.told c.args.host.now) (g.H.Host.told c.loop-k.host) c.loop-k.k (st c.args.host.now) (st c.loop-k.host) (st c.look_at.new.host) c.in-Err.fault (omega (arith, same, c.loop-k-test.true)) i.0 i.3 i.4 c.in-Err.ensures.answer c.look_at.ensures.later
