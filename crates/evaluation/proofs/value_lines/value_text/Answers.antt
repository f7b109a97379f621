use Rattle.std.proofs.Common.{◌∙◌, sym, ap, length}
use Rattle.evaluation.proofs.ValueLinesLemmas.{length_all}
use Rattle.evaluation.proofs.value_lines.value_text.Goals as goal

pub push_values-requires-clause-names : goal.push_values-requires-clause-names
push_values-requires-clause-names c = ap length (c.deref.ensures.value ∙ c.in_ok-marks.ensures) ∙ length_all c.args.workflow.now ∙ sym (ap length c.as_slice.ensures)

pub push_values-requires-clause-values : goal.push_values-requires-clause-values
push_values-requires-clause-values c = ap length (c.deref.ensures.value ∙ c.in_ok-marks.ensures) ∙ length_all c.args.workflow.now ∙ sym c.requires
