use Rattle.std.proofs.Common.{arith}
use Rattle.storage_simulation.proofs.KeyingLemmas.{room_fits, room_nowhere}
use Rattle.storage_simulation.proofs.keying.room_of.Goals as goal

pub returns-then-at-places : goal.returns-then-at-places
returns-then-at-places c = record { fits = λ t opens at clean. room_fits c.args.plan.now c.args.standing.now c.args.front.now t c.args.at c.room_at.result c.requires.set opens clean at (omega (arith, c.if-at-places.true, c.places.ensures.value)) c.room_at.ensures }

pub returns-else-at-places : goal.returns-else-at-places
returns-else-at-places c = record { fits = λ t opens at clean. room_nowhere c.args.plan.now c.args.standing.now c.args.front.now t c.args.at c.requires.set opens clean at (omega (arith, c.if-at-places.false, c.places.ensures.value)) }
