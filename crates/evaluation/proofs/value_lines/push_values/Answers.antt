use Rattle.std.proofs.Common.{◌+◌, List, ◌++◌, drop, sym, ap, ◌∙◌, append_assoc, arith}
use Rattle.evaluation.specs.ValueLines.{Valued, picked, value_line, value_lines}
use Rattle.evaluation.proofs.ValueLinesLemmas.{picked_here, picked_not_here}
use Rattle.evaluation.proofs.value_lines.push_values.Goals as goal
use Rattle.evaluation.proofs.value_lines.push_values.Goals.{then-marked+in_ok-push_value, else-marked}

pub loop-i-preserved : goal.loop-i-preserved
loop-i-preserved c = elim c.if-marked.branch [
  | then-marked+in_ok-push_value w ↦
      let here = picked_here c.args.marks.now c.args.names.now c.args.values.now c.loop-i.i w.index-names-i.result w.index-values-i.result (omega arith) c.requires.names c.requires.values w.if-marked.true w.index-names-i.is w.index-values-i.is in
      rw (w.text-is, w.in_ok-push_value.ensures) (append_assoc c.loop-i.text.items (value_line (record { name = w.index-names-i.result; bytes = w.index-values-i.result })) (value_lines (picked (drop (c.loop-i.i + 1) c.args.marks.now) (drop (c.loop-i.i + 1) c.args.names.now) (drop (c.loop-i.i + 1) c.args.values.now))) ∙ sym (ap (λ (ds : List Valued). c.loop-i.text.items ++ value_lines ds) here) ∙ c.loop-i.invariant)
  | else-marked w ↦
      let here = picked_not_here c.args.marks.now c.args.names.now c.args.values.now c.loop-i.i (omega arith) c.requires.names c.requires.values w.if-marked.false in
      rw w.text-is (sym (ap (λ (ds : List Valued). c.loop-i.text.items ++ value_lines ds) here) ∙ c.loop-i.invariant)
]
