use Rattle.std.proofs.Common.{None, length}
use Rattle.std.specs.Prelude.{replicate}
use Rattle.storage_simulation.specs.Goods.{makes}
use Rattle.place_peaks.proofs.EndingLemmas.{home_of, none_lowered}
use Rattle.place_peaks.proofs.peaks.Peaks.settle_one_size.Goals as goal

pub settle_all-requires-clause-home : goal.settle_all-requires-clause-home
settle_all-requires-clause-home c = home_of c.args.plan.now c.args.links.now c.args.self.now c.args.task (replicate (length (makes c.args.plan.now c.args.task)) c.args.size) _ c.requires.settles c.in-Some.ensures

pub returns-in-None-clause-lowered : goal.returns-in-None-clause-lowered
returns-in-None-clause-lowered c = none_lowered c.args.plan.now c.args.links.now c.args.self.now c.args.task (replicate (length (makes c.args.plan.now c.args.task)) c.args.size) c.requires.settles (home_of c.args.plan.now c.args.links.now c.args.self.now c.args.task (replicate (length (makes c.args.plan.now c.args.task)) c.args.size) None c.requires.settles c.in-None.ensures)
