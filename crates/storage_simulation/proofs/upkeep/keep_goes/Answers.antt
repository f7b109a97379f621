use Rattle.storage_simulation.specs.code.Front.{front_of}
use Rattle.storage_simulation.specs.code.Index.{last_of}
use Rattle.storage_simulation.specs.code.Ordering.{progress}
use Rattle.storage_simulation.specs.Usage.{sum_of}
use Rattle.storage_simulation.proofs.UpkeepLemmas.{goes_kept}
use Rattle.storage_simulation.proofs.upkeep.keep_goes.Goals as goal

pub returns-clause-goes : goal.returns-clause-goes
returns-clause-goes c = goes_kept c.args.plan.now (progress c.args.standing.now) (front_of c.args.front.now) c.args.table.now.items c.raise_all.new.table.items
    (λ v. sum_of (last_of c.args.plan.now (progress c.args.standing.now) (front_of c.args.front.now) v) c.args.tasks.now)
    c.requires.set.limits c.requires.set.standing.small c.requires.small c.requires.next c.raise_all.ensures.each c.raise_all.ensures.others
