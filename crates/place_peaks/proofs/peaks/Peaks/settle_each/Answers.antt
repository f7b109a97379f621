use Rattle.std.proofs.Common.{◌≡◌, ◌<◌, ◌-◌, suc, refl, arith, length}
use Rattle.place_peaks.proofs.Offered.{declared_long}
use Rattle.storage_simulation.specs.Goods.{makes}
use Rattle.place_peaks.proofs.EndingLemmas.{kept_more, kept_none, step_fits, step_more, step_only, steps_first, steps_last}
use Rattle.place_peaks.proofs.peaks.Peaks.settle_each.Goals as goal

pub loop-k-init : goal.loop-k-init
loop-k-init c = record {
  kept = kept_none c.args.self.now;
  lowered = steps_first c.args.plan.now c.args.links.now c.args.self.now c.args.task c.count_made-k.result c.args.sizes.now c.count_made-k.ensures;
  below = omega (arith, c.count_made-k.ensures);
}

pub settle_good-requires-clause-fits : goal.settle_good-requires-clause-fits
settle_good-requires-clause-fits c =
    let next : suc (c.loop-k.k - 1) ≡ c.loop-k.k = omega arith in
    let below : c.loop-k.k - 1 < length (makes c.args.plan.now c.args.task) = omega arith in
    step_fits c.args.plan.now c.args.links.now c.args.self.now c.loop-k.self c.args.task c.args.at (c.loop-k.k - 1) c.loop-k.k c.made_at-good.result _ c.args.sizes.now c.requires.limits
    (λ size zs place small. c.sums_are_small.ensures c.args.plan.now size zs place c.requires.limits small) c.requires.links c.requires.settles c.loop-k.invariant.kept c.requires.home next below c.made_at-good.ensures refl c.loop-k.invariant.lowered

pub settle_good-requires-clause-only : goal.settle_good-requires-clause-only
settle_good-requires-clause-only c =
    let below : c.loop-k.k - 1 < length (makes c.args.plan.now c.args.task) = omega arith in
    λ r low at. step_only c.args.plan.now c.args.links.now c.args.self.now c.args.task c.args.at (c.loop-k.k - 1) c.made_at-good.result r c.args.sizes.now c.requires.settles c.requires.home below c.made_at-good.ensures low at

pub loop-k-preserved : goal.loop-k-preserved
loop-k-preserved c =
    let next : suc (c.loop-k.k - 1) ≡ c.loop-k.k = omega arith in
    let below : c.loop-k.k - 1 < length (makes c.args.plan.now c.args.task) = omega arith in
    record {
      kept = kept_more c.args.self.now c.loop-k.self c.settle_good.new.self c.loop-k.invariant.kept c.settle_good.ensures.kept;
      lowered = step_more c.args.plan.now c.args.links.now c.args.self.now c.loop-k.self c.settle_good.new.self c.args.task (c.loop-k.k - 1) c.loop-k.k c.made_at-good.result _ c.args.sizes.now c.requires.settles c.loop-k.invariant.kept next below c.made_at-good.ensures refl c.loop-k.invariant.lowered (c.settle_good.ensures.base, c.settle_good.ensures.trees);
      below = omega arith;
    }

pub returns-clause-lowered : goal.returns-clause-lowered
returns-clause-lowered c = steps_last c.args.plan.now c.args.links.now c.args.self.now c.loop-k.self c.args.task c.loop-k.k c.args.sizes.now (omega arith) c.loop-k.invariant.lowered

pub bounds-sizes-k : goal.bounds-sizes-k
bounds-sizes-k c = let e = declared_long c.args.plan.now (makes c.args.plan.now c.args.task) c.args.sizes.now c.requires.settles.declared in omega (arith, e)
