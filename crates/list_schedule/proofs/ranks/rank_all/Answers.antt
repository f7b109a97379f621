use Rattle.std.proofs.Common.{◌≡◌, ℕ, ◌-◌, ◌*◌, ◌^◌, List, length, ap, subst, ◌∙◌, arith}
use Rattle.std.proofs.lemmas.List.{length-replicate}
use Rattle.dependency_graph.proofs.LevelsLemmas.{parents_kept}
use Rattle.list_schedule.proofs.RankLemmas.{AreRankedFrom, zero_small, ranked_first, ranked_next, ranked_all, job_at, job_within, few_done}
use Rattle.list_schedule.proofs.ranks.rank_all.Goals as goal

pub loop-done-init : goal.loop-done-init
loop-done-init c = record {
  ranked = λ e costs. ranked_first c.args.graph.now c.args.kept.now e c.args.ranks.now (length c.args.kept.now) c.ordered-ordered.result.now c.ordered-ordered.ensures c.requires.zeros;
  small = λ a. zero_small c.args.ranks.now (length c.args.kept.now) 0 a c.requires.zeros;
  long = ap (λ (xs : List ℕ). length xs) c.requires.zeros ∙ length-replicate (length c.args.kept.now) 0;
}

pub loop-done-preserved : goal.loop-done-preserved
loop-done-preserved c = record {
  ranked = λ e costs. ranked_next c.requires.graph.0 c.args.graph.now c.args.kept.now e _ _ c.loop-done.ranks _ c.ordered-ordered.result.now c.loop-done.done c.requires.graph.2 c.ordered-ordered.ensures (omega arith) costs c.rank_next.ensures.kept c.rank_next.ensures.dropped (c.loop-done.invariant.ranked e costs);
  small = λ a. let more = c.rank_next.ensures.small (c.loop-done.done * 2 ^ 65) c.loop-done.invariant.small a in omega (arith, more);
  long = omega arith;
}

pub rank_next-requires-clause-job : goal.rank_next-requires-clause-job
rank_next-requires-clause-job c = job_within c.requires.graph.0 c.args.graph.now c.args.kept.now c.ordered-ordered.result.now _ c.requires.graph.2 c.requires.kept c.ordered-ordered.ensures (omega arith)

pub rank_next-requires-clause-in_range : goal.rank_next-requires-clause-in_range
rank_next-requires-clause-in_range c = parents_kept c.requires.graph.0 c.args.graph.now c.args.kept.now c.requires.graph.2 c.requires.kept _

pub rank_next-requires-clause-small : goal.rank_next-requires-clause-small
rank_next-requires-clause-small c = let few = few_done c.requires.graph.0 c.args.graph.now c.ordered-ordered.result.now c.requires.graph.1 c.requires.graph.2 c.ordered-ordered.ensures in
    let small = c.loop-done.invariant.small (job_at c.ordered-ordered.result.now (length c.ordered-ordered.result.now - 1 - c.loop-done.done)) in omega (arith, few, small)

pub returns-clause-ranks : goal.returns-clause-ranks
returns-clause-ranks c = λ e costs. ranked_all c.requires.graph.0 c.args.graph.now c.args.kept.now e c.loop-done.ranks c.requires.graph.2 c.requires.kept c.loop-done.invariant.long (subst (AreRankedFrom c.args.graph.now c.args.kept.now e c.loop-done.ranks) (let none : length c.ordered-ordered.result.now - c.loop-done.done ≡ 0 = omega arith in none) (c.loop-done.invariant.ranked e costs))

pub returns-clause-small : goal.returns-clause-small
returns-clause-small c = λ a. let few = few_done c.requires.graph.0 c.args.graph.now c.ordered-ordered.result.now c.requires.graph.1 c.requires.graph.2 c.ordered-ordered.ensures in
    let small = c.loop-done.invariant.small a in omega (arith, few, small)
