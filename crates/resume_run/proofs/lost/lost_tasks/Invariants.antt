use Rattle.std.proofs.Common.{◌≡◌}
use Rattle.lease_book.specs.Book.{state_at}
use Rattle.resume_run.specs.Lost.{lost_below}
use Rattle.resume_run.proofs.lost.lost_tasks.Given as goal

abbrev pub invariant-loop-number : goal.invariant-loop-number
invariant-loop-number l = l.lost.items ≡ lost_below (state_at l.book) l.number
