use Rattle.std.proofs.Common.{◌+◌, ◌^◌, length, sym, subst}
use Rattle.list_schedule.specs.declared.choice.Slot.{Slot}
use Rattle.list_schedule.specs.code.Arrivals.{IsEarliest}
use Rattle.list_schedule.proofs.ChoiceLemmas.{earliest_first, earliest_more}
use Rattle.list_schedule.proofs.choice.earliest.Goals as goal

pub loop-place-init : goal.loop-place-init
loop-place-init c = record {
  earliest = earliest_first c.args.candidates.now c.args.times.now c.args.free.now c.args.latest.now c.slot_at-best.result (record { site = c.slot_at-best.ensures.site; start = c.slot_at-best.ensures.start; finish = c.slot_at-best.ensures.finish });
  small = c.slot_at-best.ensures.small;
  site = c.slot_at-best.ensures.within;
}

pub loop-place-preserved : goal.loop-place-preserved
loop-place-preserved c = record {
  earliest = subst (λ (z : Slot). IsEarliest c.args.candidates.now c.args.times.now c.args.free.now c.args.latest.now z (c.loop-place.place + 1)) (sym c.sooner-best.ensures.same)
      (earliest_more c.args.candidates.now c.args.times.now c.args.free.now c.args.latest.now c.loop-place.best c.slot_at-next.result c.loop-place.place c.loop-place.invariant.earliest
      (record { site = c.slot_at-next.ensures.site; start = c.slot_at-next.ensures.start; finish = c.slot_at-next.ensures.finish }));
  small = λ n all one two. c.sooner-best.ensures.small (n + 2 ^ 64) (c.loop-place.invariant.small n all one two) (c.slot_at-next.ensures.small n all one two);
  site = c.sooner-best.ensures.site (length c.args.free.now) c.loop-place.invariant.site c.slot_at-next.ensures.within;
}
