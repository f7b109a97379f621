use Rattle.std.proofs.Common.{◌+◌, ℕ, List, Option, [], ◌∷◌, Some, length, length-append, map, get_or, ap, ◌∙◌, arith}
use Rattle.plan_core.specs.Words.{task_numbers}
use Rattle.storage_simulation.specs.code.Standings.{held_of}
use Rattle.storage_simulation.specs.Standings.{sizes}
use Rattle.place_peaks.specs.Places.{held_by, there}
use Rattle.place_peaks.specs.Values.{all_left, values}
use Rattle.place_peaks.proofs.OpeningLemmas.{one_tree_more}
use Rattle.place_peaks.proofs.peaks.Peaks.plant.Goals as goal

pub loop-at-preserved : goal.loop-at-preserved
loop-at-preserved c = record {
  long = ap length c.in_ok-push.ensures.items ∙ length-append c.loop-at.trees.items (c.in_ok-of.field-0 ∷ []) ∙ ap (λ (n : ℕ). n + 1) c.loop-at.invariant.long;
  each = λ q l. ap (λ (vs : List (List (Option ℕ))). get_or vs q []) c.in_ok-push.ensures.items
      ∙ one_tree_more (λ r. values (there c.args.plan.now r) all_left (held_by c.args.plan.now (sizes (held_of c.args.standing.now)) r) [] (task_numbers c.args.order.now)) c.loop-at.trees.items c.in_ok-of.field-0 c.loop-at.at c.loop-at.invariant.long c.loop-at.invariant.each
      (c.in_ok-of.ensures ∙ ap (map Some) c.as_slice.ensures.value ∙ c.find_levels.ensures.levels) q l;
  room = omega (arith, c.loop-at.invariant.room, c.find_levels.ensures.room);
}
