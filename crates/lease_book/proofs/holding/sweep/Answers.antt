use Rattle.storage_simulation.specs.code.Standings.{held_of}
use Rattle.lease_book.proofs.ArrayLemmas.{cleaned_at, cleaned_in}
use Rattle.lease_book.proofs.holding.sweep.Goals as goal

pub set_held-requires : goal.set_held-requires
set_held-requires c = cleaned_in c.args.plan.now c.args.standing.now c.args.task c.in-Some.good c.requires.laws c.requires.long c.in-Some.ensures

pub returns-in-Some-clause-held : goal.returns-in-Some-clause-held
returns-in-Some-clause-held c = cleaned_at c.args.plan.now c.args.task c.in-Some.good (held_of c.set_held.new.standing) (held_of c.args.standing.now) c.in-Some.ensures c.set_held.ensures.held
