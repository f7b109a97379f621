use Rattle.std.proofs.Common.{refl}
use Rattle.place_peaks.proofs.peaks.Peaks.clean_on_stack.Goals as goal

pub returns-clause-swept : goal.returns-clause-swept
returns-clause-swept c = record {
  same = refl;
  missing_long = c.end_for_children.ensures.long;
  missing = c.end_for_children.ensures.each;
  bases_long = c.take_base.ensures.long;
  base = c.take_base.ensures.each;
}
