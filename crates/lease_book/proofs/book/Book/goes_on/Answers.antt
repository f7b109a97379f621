use Rattle.lease_book.specs.RunState.{state_of}
use Rattle.lease_book.proofs.BookLemmas.{left_runs}
use Rattle.lease_book.proofs.TrialLemmas.{none_runs}
use Rattle.lease_book.proofs.book.Book.goes_on.Goals as goal

pub returns-in-Some : goal.returns-in-Some
returns-in-Some c = left_runs c.args.self.now.plan (state_of c.args.self.now.state) c.args.self.now.state.standing.tasks _ c.args.self.now.kept.laws c.args.self.now.kept.consistent.sound c.requires.unfailed c.requires.no_choice c.in-Some.ensures (none_runs c.args.self.now.state.standing.tasks)
