use Rattle.std.proofs.Common.{sym, arith}
use Rattle.place_peaks.specs.Peaks.{left_of, line_of}
use Rattle.place_peaks.proofs.FrontLemmas.{passed_all, passed_more}
use Rattle.place_peaks.proofs.peaks.Peaks.next_front.Goals as goal

pub loop-k-preserved : goal.loop-k-preserved
loop-k-preserved c = record {
  passed = λ h. passed_more (left_of c.args.self.now) (line_of c.args.self.now) c.loop-k.k c.line_task.result (omega (arith, c.count_line-count.ensures)) c.line_task.ensures
      (sym c.if-is_left.ensures) (c.loop-k.invariant.passed h);
}

pub returns : goal.returns
returns c h = passed_all (left_of c.args.self.now) (line_of c.args.self.now) c.loop-k.k c.count_line-count.result c.count_line-count.ensures (omega arith) (c.loop-k.invariant.passed h)
