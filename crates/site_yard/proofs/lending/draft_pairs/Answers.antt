use Rattle.std.proofs.Common.{◌∙◌, arith}
use Rattle.site_yard.proofs.CountingLemmas.{done_before}
use Rattle.site_yard.proofs.PartLemmas.{draft_stops, drafted_more, drafts_whole, later_both, targets_long}
use Rattle.site_yard.proofs.lending.draft_pairs.Goals as goal

pub loop-k-preserved : goal.loop-k-preserved
loop-k-preserved g c =
    let i = c.loop-k.invariant in
    let st = g.H.Host.counts in (
      c.draft_pair.ensures.told ∙ i.0,
      c.draft_pair.ensures.marked ∙ i.1,
      later_both (st c.args.host.now) (st c.loop-k.host) (st c.draft_pair.new.host) i.2 c.draft_pair.ensures.later,
      drafted_more g.H.Draft.WritePart.state c.args.plan.now _ _ c.args.pairs.now c.loop-k.drafts.items c.push_reserved.new.self.items c.loop-k.k _ c.in-Ok.draft c.loop-k-test.true i.0 c.push_reserved.ensures.items i.3 c.in-Ok.ensures.answer.0,
      done_before c.loop-k.k 1 0 0 (st c.args.host.now) (st c.loop-k.host) (st c.draft_pair.new.host) i.4 c.in-Ok.ensures.answer.1 c.draft_pair.ensures.later,
      (let len = c.push_reserved.ensures.len in omega (arith, len, i.5)),
      c.push_reserved.ensures.capacity ∙ i.6,
    )

pub returns-in-Err-clause-answer : goal.returns-in-Err-clause-answer
returns-in-Err-clause-answer g c =
    let i = c.loop-k.invariant in
    let st = g.H.Host.counts in
    let long = targets_long c.args.plan.now c.args.pairs.now in
    draft_stops _ c.loop-k.k (st c.args.host.now) (st c.loop-k.host) (st c.draft_pair.new.host) c.in-Err.cause (omega (arith, long, c.loop-k-test.true)) i.4 c.draft_pair.ensures.later c.in-Err.ensures.answer

pub returns-in-Err-clause-whole : goal.returns-in-Err-clause-whole
returns-in-Err-clause-whole g c = let i = c.loop-k.invariant in rw i.3 (drafts_whole _ _)

pub returns-clause-whole : goal.returns-clause-whole
returns-clause-whole g c = let i = c.loop-k.invariant in rw i.3 (drafts_whole _ _)
