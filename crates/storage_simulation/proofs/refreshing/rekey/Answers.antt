use Rattle.storage_simulation.specs.code.Front.{front_of}
use Rattle.storage_simulation.specs.code.Ordering.{progress}
use Rattle.storage_simulation.proofs.RefreshingLemmas.{all_told}
use Rattle.storage_simulation.proofs.refreshing.rekey.Goals as goal

pub returns-clause-told : goal.returns-clause-told
returns-clause-told c = all_told c.args.plan.now (progress c.args.standing.now) (front_of c.args.front.now) c.args.index.now c.set_key.new.index c.touch_all.new.index c.args.task c.args.children.now c.set_key.ensures.told c.touch_all.ensures.told c.requires.kept
