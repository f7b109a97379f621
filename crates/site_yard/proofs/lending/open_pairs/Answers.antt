use Rattle.std.proofs.Common.{◌∙◌, arith, sym}
use Rattle.std.proofs.lemmas.List.{length-map}
use Rattle.plan_core.specs.Words.{pair_numbers}
use Rattle.site_yard.proofs.CountingLemmas.{done_before}
use Rattle.site_yard.proofs.PartLemmas.{later_both, nth_in, numbers_long, open_stops, opened_more, readings_whole}
use Rattle.site_yard.proofs.lending.open_pairs.Goals as goal

pub loop-k-preserved : goal.loop-k-preserved
loop-k-preserved g c =
    let i = c.loop-k.invariant in
    let st = g.H.Host.counts in (
      c.open_pair.ensures.told ∙ i.0,
      c.open_pair.ensures.marked ∙ i.1,
      later_both (st c.args.host.now) (st c.loop-k.host) (st c.open_pair.new.host) i.2 c.open_pair.ensures.later,
      opened_more g.H.Reading.ReadPart.state c.args.plan.now _ _ c.args.pairs.now c.loop-k.readings.items c.push_reserved.new.self.items c.loop-k.k _ c.in-Ok.reading c.loop-k-test.true (sym c.loop-k.readings.ok.0 ∙ i.5) i.0 c.push_reserved.ensures.items (length-map c.loop-k.readings.items g.H.Reading.ReadPart.state) i.3 c.in-Ok.ensures.answer.0,
      done_before c.loop-k.k 1 0 0 (st c.args.host.now) (st c.loop-k.host) (st c.open_pair.new.host) i.4 c.in-Ok.ensures.answer.1 c.open_pair.ensures.later,
      (let len = c.push_reserved.ensures.len in omega (arith, len, i.5)),
      c.push_reserved.ensures.capacity ∙ i.6,
    )

pub returns-in-Err-clause-answer : goal.returns-in-Err-clause-answer
returns-in-Err-clause-answer g c =
    let i = c.loop-k.invariant in
    let st = g.H.Host.counts in
    let long = numbers_long c.args.pairs.now in
    open_stops c.args.plan.now (pair_numbers c.args.pairs.now) _ _ _ c.loop-k.k (st c.args.host.now) (st c.loop-k.host) (st c.open_pair.new.host) c.in-Err.cause i.0 (nth_in c.args.pairs.now c.loop-k.k _ c.loop-k-test.true) (omega (arith, long, c.loop-k-test.true)) i.4 c.open_pair.ensures.later c.in-Err.ensures.answer

pub returns-in-Err-clause-whole : goal.returns-in-Err-clause-whole
returns-in-Err-clause-whole g c = let i = c.loop-k.invariant in readings_whole c.args.plan.now _ _ _ i.3

pub returns-clause-whole : goal.returns-clause-whole
returns-clause-whole g c = let i = c.loop-k.invariant in readings_whole c.args.plan.now _ _ _ i.3
