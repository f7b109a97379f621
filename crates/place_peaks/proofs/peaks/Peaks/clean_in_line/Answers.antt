use Rattle.std.proofs.Common.{nat_eq, refl, ◌∙◌}
use Rattle.place_peaks.specs.Peaks.{left_of}
use Rattle.place_peaks.proofs.FrontLemmas.{marked_off}
use Rattle.place_peaks.proofs.SetLemmas.{unmarked}
use Rattle.place_peaks.proofs.peaks.Peaks.clean_in_line.Goals as goal

pub take_base-requires : goal.take_base-requires
take_base-requires c = λ q home. (c.requires.frees q home).gives

pub sweep_at-requires : goal.sweep_at-requires
sweep_at-requires c = λ q home. (c.requires.frees q home).sweeps

pub returns : goal.returns
returns c = record {
  same = refl;
  missing_long = c.end_for_children.ensures.long;
  missing = c.end_for_children.ensures.each;
  marks_long = c.unmark.ensures.long;
  bases_long = c.take_base.ensures.long;
  trees_long = c.sweep_at.ensures.long;
  left = λ u. c.unmark.ensures.each u ∙ unmarked (nat_eq c.args.task u) (left_of c.args.self.now u);
  base = c.take_base.ensures.each;
  trees = c.sweep_at.ensures.each;
  passed = λ h. c.next_front-self.ensures (marked_off c.args.self.now c.unmark.new.left.items c.args.task c.unmark.ensures.each h);
}
