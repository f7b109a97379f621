use Rattle.std.proofs.Common.{None}
use Rattle.place_peaks.proofs.EndingLemmas.{home_of, none_lowered}
use Rattle.place_peaks.proofs.peaks.Peaks.settle_sizes.Goals as goal

pub settle_each-requires-clause-home : goal.settle_each-requires-clause-home
settle_each-requires-clause-home c = home_of c.args.plan.now c.args.links.now c.args.self.now c.args.task c.args.sizes.now _ c.requires.settles c.in-Some.ensures

pub returns-in-None-clause-lowered : goal.returns-in-None-clause-lowered
returns-in-None-clause-lowered c = none_lowered c.args.plan.now c.args.links.now c.args.self.now c.args.task c.args.sizes.now c.requires.settles (home_of c.args.plan.now c.args.links.now c.args.self.now c.args.task c.args.sizes.now None c.requires.settles c.in-None.ensures)
