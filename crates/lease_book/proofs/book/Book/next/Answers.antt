use Rattle.std.proofs.Common.{subst}
use Rattle.lease_book.specs.Book.{IsNext}
use Rattle.lease_rules.specs.State.{State}
use Rattle.lease_book.proofs.BookLemmas.{seen}
use Rattle.lease_book.proofs.book.Book.next.Goals as goal

pub returns-clause-next : goal.returns-clause-next
returns-clause-next c = subst (λ (s : State). IsNext c.args.self.now.plan s c.args.worker c.go_on.result c.args.self.now.history.events c.go_on.new.self.history.events) (seen c.args.self.now) c.go_on.ensures.next
