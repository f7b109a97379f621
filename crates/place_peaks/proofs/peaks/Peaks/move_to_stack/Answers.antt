use Rattle.std.proofs.Common.{nat_eq, refl, ◌∙◌}
use Rattle.place_peaks.specs.Peaks.{left_of}
use Rattle.place_peaks.proofs.FrontLemmas.{marked_off}
use Rattle.place_peaks.proofs.SetLemmas.{unmarked}
use Rattle.place_peaks.proofs.peaks.Peaks.move_to_stack.Goals as goal

pub returns-clause-moved : goal.returns-clause-moved
returns-clause-moved c = record {
  same = refl;
  marks_long = c.unmark.ensures.long;
  trees_long = c.sweep_at.ensures.long;
  left = λ u. c.unmark.ensures.each u ∙ unmarked (nat_eq c.args.task u) (left_of c.args.self.now u);
  trees = c.sweep_at.ensures.each;
  passed = λ h. c.next_front-self.ensures (marked_off c.args.self.now c.unmark.new.left.items c.args.task c.unmark.ensures.each h);
}
