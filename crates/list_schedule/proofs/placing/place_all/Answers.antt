use Rattle.std.proofs.Common.{◌≡◌, ℕ, ◌+◌, ◌*◌, ◌<◌, ◌^◌, length, get_or, ap, subst, ◌∙◌, arith}
use Rattle.std.proofs.lemmas.List.{take_all, length-map}
use Rattle.values.specs.declared.numbers.JobId.{JobId}
use Rattle.digraph.specs.Adjacency.{has_node}
use Rattle.digraph.specs.code.Adjacency.{lists_of}
use Rattle.dependency_graph.specs.Graph.{numbers}
use Rattle.dependency_graph.proofs.LevelsLemmas.{parents_kept}
use Rattle.list_schedule.specs.code.Board.{ArePlaced}
use Rattle.list_schedule.proofs.PlacingLemmas.{none_placed, placed_more}
use Rattle.list_schedule.proofs.WalkLemmas.{order_short, few_kept, walk_at, walk_kept, walk_within, empty_long, empty_small, empty_untouched, put_long, put_free, put_small, put_untouched}
use Rattle.list_schedule.proofs.placing.place_all.Goals as goal

pub loop-job-init : goal.loop-job-init
loop-job-init c = record {
  long = empty_long c.args.board.now _ _ c.requires.empty;
  free = omega (arith, c.args.board.now.free.ok);
  small = empty_small c.args.board.now _ _ _ c.requires.empty;
  placed = λ e ranks costs offers are sorted. none_placed c.args.graph.now c.args.kept.now e c.args.board.now c.args.order.now _ _ c.requires.empty;
  others = λ a out. empty_untouched c.args.board.now _ _ a c.requires.empty;
}

pub slot_of-slot-requires-clause-job : goal.slot_of-slot-requires-clause-job
slot_of-slot-requires-clause-job c = walk_kept c.args.kept.now c.requires.order.0 c.args.order.now c.loop-job.job-index c.requires.order.1 (omega arith)

pub slot_of-slot-requires-clause-within : goal.slot_of-slot-requires-clause-within
slot_of-slot-requires-clause-within c = walk_within c.args.kept.now c.requires.order.0 c.args.order.now c.loop-job.job-index c.requires.order.1 (omega arith)

pub slot_of-slot-requires-clause-parents : goal.slot_of-slot-requires-clause-parents
slot_of-slot-requires-clause-parents c = parents_kept c.requires.graph.0 c.args.graph.now c.args.kept.now c.requires.graph.2 c.requires.kept _

pub slot_of-slot-requires-clause-small : goal.slot_of-slot-requires-clause-small
slot_of-slot-requires-clause-small c =
    let few = few_kept c.requires.graph.0 c.args.graph.now c.args.kept.now c.requires.graph.1 c.requires.graph.2 c.requires.kept in
    let short = order_short c.args.kept.now c.requires.order.0 c.args.order.now c.requires.order.1 in (
      λ a. (let small = c.loop-job.invariant.small.0 a in omega (arith, few, short, small)),
      λ s. (let small = c.loop-job.invariant.small.1 s in omega (arith, few, short, small)),
    )

pub loop-job-preserved : goal.loop-job-preserved
loop-job-preserved c =
    let low : c.loop-job.job-index < length c.args.order.now = omega arith in
    let within = walk_within c.args.kept.now c.requires.order.0 c.args.order.now c.loop-job.job-index c.requires.order.1 low in
    let long = c.loop-job.invariant.long in
    let site : c.slot_of-slot.result.site < length c.loop-job.board.free.items = omega (arith, c.slot_of-slot.ensures.site, c.loop-job.board.free.ok) in
    record {
      long = put_long _ _ _ _ _ long c.put.ensures;
      free = put_free _ _ _ _ _ c.loop-job.invariant.free c.put.ensures;
      small = put_small c.loop-job.board _ (get_or c.args.order.now c.loop-job.job-index (record { 0 = 0 })).0 (c.loop-job.job-index * 2 ^ 65) ((c.loop-job.job-index + 1) * 2 ^ 65) c.slot_of-slot.result c.loop-job.invariant.small (omega arith) (let end = c.slot_of-slot.ensures.small (c.loop-job.job-index * 2 ^ 65) c.loop-job.invariant.small in omega (arith, end)) (omega (arith, within, long.finishes)) site c.put.ensures;
      placed = λ e ranks costs offers are sorted. placed_more c.requires.graph.0 c.args.graph.now c.args.kept.now e ranks (lists_of c.args.candidates.now) (lists_of c.args.times.now) (lists_of c.args.moves.now) c.loop-job.board _ c.args.order.now c.loop-job.job-index _ _ _
          c.requires.graph.2 costs offers are sorted (let l = length-map c.args.order.now (λ (j : JobId). j.0) in omega (arith, low, l)) (walk_at c.args.order.now c.loop-job.job-index low) long.sites long.starts long.finishes site
          (c.loop-job.invariant.placed e ranks costs offers are sorted) (record { arrivals = c.slot_of-slot.ensures.earliest.1; earliest = c.slot_of-slot.ensures.earliest.2 }) c.put.ensures;
      others = put_untouched c.loop-job.board _ c.args.order.now (length c.args.kept.now) c.loop-job.job-index _ low long within c.loop-job.invariant.others c.put.ensures;
    }

pub returns-clause-placed : goal.returns-clause-placed
returns-clause-placed c = λ e ranks costs offers are sorted.
    subst (λ (n : ℕ). ArePlaced c.args.graph.now c.args.kept.now e c.loop-job.board c.args.order.now n) (let end : c.loop-job.job-index ≡ length c.args.order.now = omega arith in end) (c.loop-job.invariant.placed e ranks costs offers are sorted)

pub returns-clause-others : goal.returns-clause-others
returns-clause-others c = λ a out. c.loop-job.invariant.others a
    (ap (has_node a) (take_all c.loop-job.job-index (numbers c.args.order.now) (let l = length-map c.args.order.now (λ (j : JobId). j.0) in omega (arith, l))) ∙ out)
