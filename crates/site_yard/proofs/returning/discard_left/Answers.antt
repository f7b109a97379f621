use Rattle.std.proofs.Common.{◌∙◌}
use Rattle.site_yard.proofs.ReturnLemmas.{count_more, first_faults, later_both}
use Rattle.site_yard.proofs.returning.discard_left.Goals as goal

pub loop-draft-preserved : goal.loop-draft-preserved
loop-draft-preserved g c =
    let i = c.loop-draft.invariant in (
      c.discard.ensures.told ∙ i.0,
      c.discard.ensures.marked ∙ i.1,
      count_more 0 _ _ _ _ (g.H.Host.counts c.args.host.now) (g.H.Host.counts c.loop-draft.host) (g.H.Host.counts c.discard.new.self) (first_faults g.H.Draft.WritePart.state c.loop-draft.drafts.items c.pop_front.new.self.items c.in-Some.draft c.in-Some.ensures.items) c.discard.ensures.counts i.2,
      later_both (g.H.Host.counts c.args.host.now) (g.H.Host.counts c.loop-draft.host) (g.H.Host.counts c.discard.new.self) i.3 c.discard.ensures.later,
    )
