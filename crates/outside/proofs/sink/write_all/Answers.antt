use Rattle.std.proofs.Common.{◌≤◌, ◌∙◌, length, drop, length-drop, arith}
use Rattle.outside.proofs.SinkLemmas.{appends_more}
use Rattle.outside.proofs.sink.write_all.Goals as goal

pub loop-at-preserved : goal.loop-at-preserved
loop-at-preserved g c =
    let wrote = rw c.split_at.ensures.back at c.in_ok-n.ensures.answer in
    let so_far = c.loop-at.invariant in
    let short : c.in_ok-n.n ≤ length (drop c.loop-at.at c.args.text.now) = wrote.0 in (
      omega (arith, so_far.0, short, length-drop c.loop-at.at c.args.text.now),
      wrote.2 ∙ so_far.1,
      appends_more _ _ _ c.args.text.now c.loop-at.at c.in_ok-n.n so_far.2 wrote.3,
    )
