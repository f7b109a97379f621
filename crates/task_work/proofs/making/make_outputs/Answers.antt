use Rattle.task_work.proofs.OverlongLemmas.{over_fits}
use Rattle.task_work.proofs.making.make_outputs.Goals as goal

pub returns-in-Some-clause-fits : goal.returns-in-Some-clause-fits
returns-in-Some-clause-fits g c = over_fits c.args.plan.now c.args.task.0 c.deref.result.now c.in-Some.over.job c.in-Some.over.file c.in-Some.over.length c.in-Some.ensures
