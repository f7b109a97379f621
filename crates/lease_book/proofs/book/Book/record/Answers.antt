use Rattle.lease_book.proofs.BookLemmas.{book_safe}
use Rattle.lease_book.proofs.book.Book.record.Goals as goal

pub returns-clause-safe : goal.returns-clause-safe
returns-clause-safe c = book_safe c.args.self.now
