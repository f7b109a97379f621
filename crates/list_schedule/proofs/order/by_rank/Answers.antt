use Rattle.std.proofs.Common.{sym, subst}
use Rattle.list_schedule.specs.Ranks.{IsRankOrder}
use Rattle.list_schedule.proofs.OrderLemmas.{order_is}
use Rattle.list_schedule.proofs.order.by_rank.Goals as goal

pub returns : goal.returns
returns c =
    let perm = rw c.in_ok-jobs.ensures at c.sort.ensures.permutation in
    let is = rw c.as_slice.ensures.value at c.in_ok-order.ensures in
    subst (IsRankOrder c.args.kept.now c.args.ranks.now) (sym is) (order_is c.args.kept.now c.args.ranks.now c.sort.new.self.items c.requires.small c.requires.long perm c.in_ok-sort.ensures.sorted)
