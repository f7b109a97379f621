use Rattle.plan_run.proofs.FinishingLemmas.{run_finishes}
use Rattle.plan_run.proofs.law.runs_finish.Goals as goal

pub returns : goal.returns
returns c w t n p order x end proper can none ran = run_finishes c.nothing_else_fails.ensures.since w t n p order x end proper can none ran
