use Rattle.lease_book.proofs.BookLemmas.{book_standing}
use Rattle.lease_book.proofs.book.Book.reserved.Goals as goal

pub reserved_at-requires-clause-standing : goal.reserved_at-requires-clause-standing
reserved_at-requires-clause-standing c = book_standing c.args.self.now
