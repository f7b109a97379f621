use Rattle.std.proofs.Common.{◌≡◌, length}
use Rattle.clustering.proofs.LabelsLemmas.{AreHeld}
use Rattle.clustering.proofs.labels.note_part.Given as goal

abbrev pub invariant-loop-job : goal.invariant-loop-job
invariant-loop-job l = (length l.holders.items ≡ length l.fn.holders.items) × AreHeld l.number l.part l.fn.holders.items l.holders.items l.job-index
