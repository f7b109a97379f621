use Rattle.storage_simulation.specs.code.Front.{front_of}
use Rattle.storage_simulation.specs.code.Ordering.{progress}
use Rattle.storage_simulation.proofs.RefreshingLemmas.{bests_all}
use Rattle.storage_simulation.proofs.refreshing.rebest.Goals as goal

pub returns-clause-bests : goal.returns-clause-bests
returns-clause-bests c = bests_all c.args.plan.now (progress c.args.standing.now) (front_of c.args.front.now) c.args.index.now c.set_own.new.index c.settle_all.new.index c.args.task c.args.children.now c.set_own.ensures.bests c.settle_all.ensures.bests c.requires.kept
