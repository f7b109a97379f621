use Rattle.std.proofs.Common.{◌∙◌, map}
use Rattle.site_yard.proofs.ReturnLemmas.{first_faults, later_both, next_left, publish_more, still_left, still_placed}
use Rattle.site_yard.proofs.returning.publish_all.Goals as goal

pub loop-draft-preserved : goal.loop-draft-preserved
loop-draft-preserved g c =
    let i = c.loop-draft.invariant in
    let st = g.H.Draft.WritePart.state in
    let left = c.loop-draft.drafts.items in
    let rest = c.pop_front.new.self.items in
    let draft = c.in-Some.draft in
    let taken = c.in-Some.ensures.items in
    let here = next_left st c.args.drafts.items left rest draft c.loop-draft.count taken i.2 in
    let more = still_left (map st c.args.drafts.items) (st draft) (map st rest) c.loop-draft.count here in (
      still_placed (map st c.args.drafts.items) (st draft) (map st rest) c.loop-draft.count _ _ _ here i.0 c.in-Ok.ensures.answer.1,
      c.publish.ensures.marked ∙ i.1,
      more.0,
      more.1,
      later_both (g.H.Host.counts c.args.host.now) (g.H.Host.counts c.loop-draft.host) (g.H.Host.counts c.publish.new.self) i.4 c.publish.ensures.later,
      publish_more c.loop-draft.count _ _ _ _ (g.H.Host.counts c.args.host.now) (g.H.Host.counts c.loop-draft.host) (g.H.Host.counts c.publish.new.self) (first_faults st left rest draft taken) c.in-Ok.ensures.answer.0 i.5,
    )
