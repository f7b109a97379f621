use Rattle.std.proofs.Common.{sym, subst}
use Rattle.list_schedule.specs.Ranks.{AreRanks}
use Rattle.list_schedule.proofs.WalkLemmas.{few_kept}
use Rattle.list_schedule.proofs.by_tables.schedule_by.Goals as goal

pub by_rank-requires-clause-few : goal.by_rank-requires-clause-few
by_rank-requires-clause-few c = few_kept c.requires.graph.0 c.args.graph.now c.args.kept.now c.requires.graph.1 c.requires.graph.2 c.requires.kept

pub placed-requires-clause-order : goal.placed-requires-clause-order
placed-requires-clause-order c = (c.deref.result.now, c.in_ok-order.ensures)

pub returns : goal.returns
returns c = λ e costs offers. c.in_ok-heft.ensures e c.deref.result.now costs offers (subst (AreRanks c.args.graph.now c.args.kept.now e) (sym c.deref.ensures.value) (c.in_ok-ranks.ensures.ranks e costs)) c.in_ok-order.ensures
