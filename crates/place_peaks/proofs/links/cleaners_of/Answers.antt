use Rattle.std.proofs.Common.{ap, length, arith}
use Rattle.place_peaks.proofs.LinksLemmas.{cleaners_all}
use Rattle.place_peaks.proofs.links.cleaners_of.Goals as goal

pub returns : goal.returns
returns c = cleaners_all c.args.plan.now c.loop-task.task c.loop-task.cleaners.items (omega (arith, ap length c.as_slice-task-end.ensures)) c.loop-task.invariant.1
