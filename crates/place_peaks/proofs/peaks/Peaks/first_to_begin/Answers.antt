use Rattle.std.proofs.Common.{◌+◌, refl, sym, subst, arith}
use Rattle.place_peaks.specs.Choosing.{InGroupBelow, IsFirst}
use Rattle.place_peaks.proofs.SearchingLemmas.{first_more, first_of_all, none_below}
use Rattle.place_peaks.proofs.peaks.Peaks.first_to_begin.Goals as goal

pub loop-group-init : goal.loop-group-init
loop-group-init c = none_below c.args.plan.now c.args.self.now 0 refl

pub loop-group-preserved : goal.loop-group-preserved
loop-group-preserved c = subst (IsFirst c.args.plan.now c.args.self.now (InGroupBelow c.args.self.now (c.loop-group.group + 1))) (sym c.earlier-first.ensures)
    (first_more c.args.plan.now c.args.self.now c.loop-group.group c.loop-group.first c.first_of_group.result c.loop-group.invariant c.first_of_group.ensures)

pub returns : goal.returns
returns c = first_of_all c.args.plan.now c.args.self.now c.loop-group.group c.loop-group.first c.requires.indexed (let e = c.places-group-end.ensures.value in omega (arith, e)) c.loop-group.invariant
