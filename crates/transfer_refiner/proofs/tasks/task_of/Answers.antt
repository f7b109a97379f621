use Rattle.transfer_refiner.proofs.ListedLemmas.{listed_of}
use Rattle.transfer_refiner.proofs.tasks.task_of.Goals as goal

pub returns-clause-listed : goal.returns-clause-listed
returns-clause-listed c = listed_of c.args.jobs.now c.args.places.now c.args.kind.now _ c.in-Ok-kind_copied.ensures c.in_ok-reads.ensures c.in-Ok.ensures
