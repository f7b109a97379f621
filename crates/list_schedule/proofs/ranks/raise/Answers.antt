use Rattle.std.proofs.Common.{arith}
use Rattle.list_schedule.proofs.RankLemmas.{reach_more}
use Rattle.list_schedule.proofs.ranks.raise.Goals as goal

pub loop-place-preserved : goal.loop-place-preserved
loop-place-preserved c = record {
  each = λ a.
      let old = c.loop-place.invariant.each a in
      let step = c.lift.ensures a in
      let sum = c.added.ensures.sum in
      let more = reach_more c.args.parents.now c.args.moves.now c.args.reached a c.loop-place.place (record { 0 = 0 }) c.requires.one_each (omega arith) in
      grind (arith, old, step, sum, more);
  small = λ n far all a.
      let old = c.loop-place.invariant.small n far all a in
      let step = c.lift.ensures a in
      let few = c.added.ensures.small in
      grind (arith, old, step, few);
}
