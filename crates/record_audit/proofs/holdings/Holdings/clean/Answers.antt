use Rattle.std.proofs.Common.{◌∙◌}
use Rattle.storage_simulation.proofs.FollowingLemmas.{is_itself}
use Rattle.record_audit.proofs.holdings.Holdings.clean.Goals as goal

pub set-requires-clause-pair : goal.set-requires-clause-pair
set-requires-clause-pair c = (c.proper_plans_keep_goods.ensures c.args.plan.now c.requires.proper).cleans_pairs c.args.task.0 c.in-Some.pair (c.in-Some.ensures c.in-Some.pair ∙ is_itself c.in-Some.pair)
