use Rattle.std.proofs.Common.{◌≡◌, ◌≤◌, length}
use Rattle.clustering.proofs.RunsLemmas.{IsNoted}
use Rattle.clustering.proofs.runs.note_runs.Given as goal

abbrev pub invariant-loop-job : goal.invariant-loop-job
invariant-loop-job l = (l.run ≤ l.job-index) × (length l.runs.items ≡ length l.fn.runs.items) × IsNoted l.numbers l.group l.fn.runs.items l.runs.items l.job-index l.run l.left
