use Rattle.std.proofs.Common.{subst, sym}
use Rattle.lease_rules.specs.Legal.{MayFail}
use Rattle.lease_rules.specs.State.{State}
use Rattle.lease_book.proofs.BookLemmas.{seen}
use Rattle.lease_book.proofs.book.Book.fail.Goals as goal

pub add_failure-requires-clause-task : goal.add_failure-requires-clause-task
add_failure-requires-clause-task c = subst (λ (s : State). MayFail c.args.self.now.plan s c.args.worker c.args.task.0) (sym (seen c.args.self.now)) c.requires.task
