use Rattle.std.proofs.Common.{nat_eq, subst, false}
use Rattle.std.specs.Prelude.{Decides}
use Rattle.lease_rules.specs.Choice.{IsChoice}
use Rattle.lease_book.specs.RunState.{state_of}
use Rattle.lease_rules.specs.State.{State}
use Rattle.lease_book.proofs.BookLemmas.{seen}
use Rattle.place_peaks.proofs.Offered.{is_found, is_none, is_stopped}
use Rattle.lease_book.proofs.book.Book.is_choice.Goals as goal

pub returns-in-Some : goal.returns-in-Some
returns-in-Some c = subst (λ (s : State). Decides (nat_eq c.in-Some.found c.args.task) (IsChoice c.args.self.now.plan s c.args.task)) (seen c.args.self.now) (is_found c.args.self.now.plan (state_of c.args.self.now.state) c.in-Some.found c.args.task c.in-Some.ensures)

pub returns-in-None : goal.returns-in-None
returns-in-None c = subst (λ (s : State). Decides false (IsChoice c.args.self.now.plan s c.args.task)) (seen c.args.self.now) (is_none c.args.self.now.plan (state_of c.args.self.now.state) c.args.task c.in-None.ensures)

pub returns-then-self : goal.returns-then-self
returns-then-self c = subst (λ (s : State). Decides false (IsChoice c.args.self.now.plan s c.args.task)) (seen c.args.self.now) (is_stopped c.args.self.now.plan (state_of c.args.self.now.state) c.args.task c.if-self.true)
