use Rattle.std.proofs.Common.{ℕ, ◌<◌}
use Rattle.lease_book.specs.Book.{state_at}
use Rattle.lease_rules.specs.Legal.{IsOpen}
use Rattle.resume_run.proofs.lost.owner.Given as goal

abbrev pub invariant-loop-worker : goal.invariant-loop-worker
invariant-loop-worker l = (w : ℕ) → w < l.worker → IsOpen (state_at l.book) w l.task.0 → ⊥
