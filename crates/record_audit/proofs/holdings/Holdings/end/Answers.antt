use Rattle.storage_simulation.specs.code.Standings.{at_in}
use Rattle.record_audit.proofs.HoldingsLemmas.{shows_ended}
use Rattle.record_audit.proofs.holdings.Holdings.end.Goals as goal

pub store_each-requires-clause-long : goal.store_each-requires-clause-long
store_each-requires-clause-long c = (c.requires.sized 0).1

pub store_each-requires-clause-small : goal.store_each-requires-clause-small
store_each-requires-clause-small c = (c.requires.sized 0).2

pub returns-clause-shows : goal.returns-clause-shows
returns-clause-shows c = λ w f shows. shows_ended c.args.plan.now c.args.task.0 c.args.sizes.now f (at_in 0 c.args.self.now.sizes.items) (at_in 0 c.store_each.new.self.sizes.items) (c.requires.sized w).0 c.store_each.ensures.sizes shows
