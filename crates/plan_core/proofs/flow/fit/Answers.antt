use Rattle.std.proofs.Common.{sym, ◌∙◌}
use Rattle.plan_core.proofs.SortingLemmas.{rising_rises}
use Rattle.plan_core.proofs.flow.fit.Goals as goal

pub includes-requires : goal.includes-requires
includes-requires c = rising_rises c.args.listed.now (sym c.is_rising.ensures ∙ c.if-is_rising.true)
