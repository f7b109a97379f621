use Rattle.lease_book.specs.Book.{state_at}
use Rattle.worker_gate.proofs.CallsLemmas.{abandons_calls, settles_calls}
use Rattle.worker_gate.proofs.tending.finish_at.Goals as goal

pub returns-in-Ok-Moved-clause-calls : goal.returns-in-Ok-Moved-clause-calls
returns-in-Ok-Moved-clause-calls g c =
    let y = c.args.yard.now in
    settles_calls y.ordered.value.plan c.args.worker c.args.task.0 _ y.book.history.events c.settle.new.self.book.history.events (g.H.Host.told y.host) (g.H.Host.counts y.host) (g.H.Host.counts c.settle.new.self.host) c.settle.ensures.entry

pub returns-in-Ok-Made-clause-calls : goal.returns-in-Ok-Made-clause-calls
returns-in-Ok-Made-clause-calls g c =
    let y = c.args.yard.now in
    let done = c.settle-in-Ok-Made in
    settles_calls y.ordered.value.plan c.args.worker c.args.task.0 _ y.book.history.events done.new.self.book.history.events (g.H.Host.told y.host) (g.H.Host.counts y.host) (g.H.Host.counts done.new.self.host) done.ensures.entry

pub returns-in-Err-clause-calls : goal.returns-in-Err-clause-calls
returns-in-Err-clause-calls g c =
    let y = c.args.yard.now in
    abandons_calls y.ordered.value.plan (state_at y.book) c.args.worker c.args.task.0 _ y.book.history.events c.abandon.new.self.book.history.events (g.H.Host.counts y.host) (g.H.Host.counts c.abandon.new.self.host) c.abandon.ensures.entry c.abandon.ensures.asked
