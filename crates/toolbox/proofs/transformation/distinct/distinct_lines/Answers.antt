use Rattle.std.proofs.Common.{[]}
use Rattle.toolbox.proofs.DistinctLemmas.{next_line}
use Rattle.toolbox.proofs.transformation.distinct.distinct_lines.Goals as goal

pub loop-line-preserved : goal.loop-line-preserved
loop-line-preserved c =
    let more = next_line c.args.lines.now c.loop-line.line-index (record { ref_ptr = (0, 0); now = [] }) c.loop-line-test.true c.loop-line.seen c.insert.new.self c.loop-line.text.items c.push_line_if.new.text.items _ c.in_ok-is_new.is_new c.loop-line.invariant.seen c.loop-line.invariant.text c.in_ok-is_new.ensures.added c.in_ok-is_new.ensures.updates c.in_ok-push_line_if.ensures in
    record { seen = more.0; text = more.1 }
