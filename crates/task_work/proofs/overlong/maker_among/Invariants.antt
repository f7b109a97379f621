use Rattle.std.proofs.Common.{◌≡◌, true, drop}
use Rattle.plan_core.specs.Kinds.{jobs_make}
use Rattle.task_work.proofs.overlong.maker_among.Given as goal

abbrev pub invariant-loop-k : goal.invariant-loop-k
invariant-loop-k l = jobs_make l.jobs (drop l.k l.some) l.file.0 ≡ true
