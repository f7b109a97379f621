use Rattle.std.proofs.Common.{◌≡◌, ◌++◌, drop}
use Rattle.evaluation.specs.ValueLines.{picked, value_lines}
use Rattle.evaluation.proofs.value_lines.push_values.Given as goal

abbrev pub invariant-loop-i : goal.invariant-loop-i
invariant-loop-i l = l.text.items ++ value_lines (picked (drop l.i l.marks) (drop l.i l.names) (drop l.i l.values)) ≡ l.initial.text.items ++ value_lines (picked l.marks l.names l.values)
