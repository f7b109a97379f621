use Rattle.lease_book.proofs.BookLemmas.{book_standing}
use Rattle.lease_book.proofs.book.Book.stored.Goals as goal

pub stored_at-requires-clause-standing : goal.stored_at-requires-clause-standing
stored_at-requires-clause-standing c = book_standing c.args.self.now
