use Rattle.std.proofs.Common.{[], Some, map, length, get_or, refl, ap, ◌∙◌, arith, sym, subst}
use Rattle.plan_core.specs.Words.{task_numbers}
use Rattle.storage_simulation.specs.code.Standings.{held_of}
use Rattle.storage_simulation.specs.Standings.{sizes}
use Rattle.place_peaks.proofs.RenewingLemmas.{levels_few, refill_more, refill_rest}
use Rattle.place_peaks.specs.declared.peaks.Peaks.{Peaks}
use Rattle.place_peaks.specs.Renewing.{CanWalk}
use Rattle.place_peaks.proofs.peaks.Peaks.refill_all.Goals as goal

pub loop-at-init : goal.loop-at-init
loop-at-init c = record {
  same = refl;
  long = refl;
  filled = λ q l. absurd (omega (arith, l));
  others = λ q l. refl;
  room = refl;
}

pub find_levels-requires-clause-walk : goal.find_levels-requires-clause-walk
find_levels-requires-clause-walk c = subst (λ (b : Peaks). CanWalk c.args.plan.now b.seating.homes.items b.needs.items b.base.items c.args.standing.now (task_numbers c.args.tasks.now)) (sym c.loop-at.invariant.same) c.requires.walk

pub find_levels-requires-clause-room : goal.find_levels-requires-clause-room
find_levels-requires-clause-room c = omega (arith, c.requires.room, c.loop-at.invariant.room)

pub refill_at-requires-clause-place : goal.refill_at-requires-clause-place
refill_at-requires-clause-place c = let long = c.loop-at.invariant.long in let all = c.requires.long in let test = c.loop-at-test.true in omega (arith, long, all, test, c.places-at-end.ensures.value)

pub refill_at-requires-clause-few : goal.refill_at-requires-clause-few
refill_at-requires-clause-few c =
    let few = levels_few c.args.plan.now (sizes (held_of c.args.standing.now)) (task_numbers c.args.tasks.now) c.find_levels.new.levels.items c.loop-at.at c.find_levels.ensures.levels in
    let same = ap length c.as_slice.ensures.value in
    let wide = c.requires.wide c.loop-at.at (let test = c.loop-at-test.true in omega (arith, test, c.places-at-end.ensures.value)) in
    let tree = ap length (c.loop-at.invariant.others c.loop-at.at (omega arith)) in
    omega (arith, few, same, wide, tree)

pub loop-at-preserved : goal.loop-at-preserved
loop-at-preserved c = record {
  same = ap (λ (b : Peaks). record b { trees = c.refill_at.new.trees }) c.loop-at.invariant.same;
  long = c.refill_at.ensures.long ∙ c.loop-at.invariant.long;
  filled = λ q l. refill_more c.args.plan.now (sizes (held_of c.args.standing.now)) (task_numbers c.args.tasks.now) c.as_slice.result.now c.loop-at.at (λ r. get_or c.args.self.now.trees.items r []) (λ r. get_or c.loop-at.self.trees.items r []) (λ r. get_or c.refill_at.new.trees.items r []) c.refill_at.ensures.each
      (ap (map Some) c.as_slice.ensures.value ∙ c.find_levels.ensures.levels) c.loop-at.invariant.filled c.loop-at.invariant.others q l;
  others = λ q m. refill_rest c.loop-at.at _ (λ r. get_or c.args.self.now.trees.items r []) (λ r. get_or c.loop-at.self.trees.items r []) (λ r. get_or c.refill_at.new.trees.items r []) c.refill_at.ensures.each c.loop-at.invariant.others q m;
  room = c.find_levels.ensures.room ∙ c.loop-at.invariant.room;
}

pub returns-clause-trees : goal.returns-clause-trees
returns-clause-trees c = λ q l. c.loop-at.invariant.filled q (let test = c.loop-at-test.false in omega (arith, l, test, c.places-at-end.ensures.value))
