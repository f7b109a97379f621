use Rattle.std.proofs.Common.{◌≡◌, drop}
use Rattle.evaluation.specs.ValueLines.{marked_by}
use Rattle.evaluation.proofs.value_lines.requested_marks.Given as goal

abbrev pub invariant-loop-job : goal.invariant-loop-job
invariant-loop-job l = marked_by (drop l.job-index l.job-items) l.marks.items ≡ marked_by l.job-items l.initial.marks.items
