use Rattle.std.proofs.Common.{◌∙◌}
use Rattle.site_yard.proofs.ReturnLemmas.{count_more, later_both, readings_left}
use Rattle.site_yard.proofs.returning.finish_all.Goals as goal

pub loop-reading-preserved : goal.loop-reading-preserved
loop-reading-preserved g c =
    let i = c.loop-reading.invariant in (
      c.finish.ensures.told ∙ i.0,
      c.finish.ensures.marked ∙ i.1,
      count_more 0 _ _ _ _ (g.H.Host.counts c.args.host.now) (g.H.Host.counts c.loop-reading.host) (g.H.Host.counts c.finish.new.self) (readings_left g.H.Reading.ReadPart.state c.loop-reading.readings.items c.pop.new.self.items c.in-Some.reading c.in-Some.ensures.items) c.finish.ensures.counts i.2,
      later_both (g.H.Host.counts c.args.host.now) (g.H.Host.counts c.loop-reading.host) (g.H.Host.counts c.finish.new.self) i.3 c.finish.ensures.later,
    )
