use Rattle.std.proofs.Common.{[]}
use Rattle.toolbox.proofs.HoldsLemmas.{next_line}
use Rattle.toolbox.proofs.transformation.holds.matching_lines.Goals as goal

pub loop-line-preserved : goal.loop-line-preserved
loop-line-preserved c =
    next_line c.args.pattern.now c.args.lines.now c.loop-line.line-index (record { ref_ptr = (0, 0); now = [] }) c.loop-line-test.true c.new-finder.result c.stands_in-wanted.result c.loop-line.text.items c.push_line_if.new.text.items _ c.loop-line.invariant
    c.new-finder.ensures c.stands_in-wanted.ensures c.in_ok-push_line_if.ensures
