use Rattle.std.proofs.Common.{sym, subst}
use Rattle.dependency_graph.specs.Ranking.{IsRanked}
use Rattle.dependency_graph.proofs.RankingLemmas.{ranked_is}
use Rattle.dependency_graph.proofs.ranking.ranked.Goals as goal

pub returns : goal.returns
returns c =
    let perm = rw c.in_ok-jobs.ensures at c.sort.ensures.permutation in
    let is = rw c.as_slice.ensures.value at c.in_ok-numbers.ensures in
    subst (IsRanked c.args.kept.now c.args.levels.now) (sym is) (ranked_is c.args.kept.now c.args.levels.now c.sort.new.self.items perm c.in_ok-sort.ensures.sorted)
