use Rattle.std.proofs.Common.{refl}
use Rattle.storage_simulation.specs.code.Ordering.{progress}
use Rattle.storage_simulation.proofs.KeyingLemmas.{laid_settled}
use Rattle.storage_simulation.proofs.keying.set_best.Goals as goal

pub returns-clause-laid : goal.returns-clause-laid
returns-clause-laid c = laid_settled c.args.plan.now (progress c.args.standing.now) c.args.index.now _ c.requires.laid (record { spots = refl; slots = refl; keys = refl; comes = refl; goes = refl }) c.set.ensures.tree c.set.ensures.wide
