use Rattle.task_work.proofs.OverlongLemmas.{nth_job}
use Rattle.task_work.proofs.overlong.maker_among.Goals as goal

pub returns-then-makes_file-clause-job : goal.returns-then-makes_file-clause-job
returns-then-makes_file-clause-job c = nth_job c.args.some.now c.loop-k.k _ c.loop-k-test.true
