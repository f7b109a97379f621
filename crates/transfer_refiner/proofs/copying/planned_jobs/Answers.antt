use Rattle.transfer_refiner.proofs.CopyingLemmas.{jobs_push}
use Rattle.transfer_refiner.proofs.copying.planned_jobs.Goals as goal

pub loop-i-preserved : goal.loop-i-preserved
loop-i-preserved c = jobs_push c.args.tools.now c.args.jobs.now c.args.sites.now c.loop-i.i c.index-jobs-i.result _ c.loop-i.planned.items c.push.new.self.items c.in_ok-planned_job.field-0 c.loop-i-test.true c.requires c.index-jobs-i.is c.in_ok-planned_job.ensures c.loop-i.invariant c.in_ok-push.ensures.items
