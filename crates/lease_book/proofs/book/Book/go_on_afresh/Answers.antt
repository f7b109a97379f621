use Rattle.std.proofs.Common.{refl, sym, ◌∙◌}
use Rattle.lease_book.specs.RunState.{state_of}
use Rattle.lease_book.proofs.BookLemmas.{all_done, one_runs}
use Rattle.lease_book.proofs.TrialLemmas.{none_runs}
use Rattle.lease_book.proofs.book.Book.go_on_afresh.Goals as goal

pub returns-then-goes_on-clause-next : goal.returns-then-goes_on-clause-next
returns-then-goes_on-clause-next c = (c.requires.unfailed, c.requires.no_choice, c.in-None.ensures.fresh, one_runs c.args.self.now.state.standing.tasks (sym c.goes_on.ensures ∙ c.if-goes_on.true), refl)

pub returns-else-goes_on-clause-next : goal.returns-else-goes_on-clause-next
returns-else-goes_on-clause-next c = (all_done c.args.self.now.plan (state_of c.args.self.now.state) c.args.self.now.kept.laws c.args.self.now.kept.consistent.sound c.requires.unfailed c.requires.no_choice (none_runs c.args.self.now.state.standing.tasks (sym c.goes_on.ensures ∙ c.if-goes_on.false)), refl)
