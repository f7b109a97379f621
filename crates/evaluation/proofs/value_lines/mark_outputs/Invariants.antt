use Rattle.std.proofs.Common.{◌≡◌, drop}
use Rattle.evaluation.specs.ValueLines.{marked}
use Rattle.evaluation.proofs.value_lines.mark_outputs.Given as goal

abbrev pub invariant-loop-output : goal.invariant-loop-output
invariant-loop-output l = marked (drop l.output-index l.outputs) l.marks.items ≡ marked l.outputs l.fn.marks.items
