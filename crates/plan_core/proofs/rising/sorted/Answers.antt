use Rattle.std.proofs.Common.{◌∙◌, ap, sym}
use Rattle.plan_core.specs.code.Rising.{is_rising}
use Rattle.plan_core.proofs.SortingLemmas.{rising_rises, sorted_rises, sort_same}
use Rattle.plan_core.proofs.rising.sorted.Goals as goal

pub returns-then-is_rising-clause-rises : goal.returns-then-is_rising-clause-rises
returns-then-is_rising-clause-rises c = rising_rises c.args.list.items (ap is_rising (sym c.deref.ensures.value) ∙ sym c.is_rising.ensures ∙ c.if-is_rising.true)

pub returns-clause-rises : goal.returns-clause-rises
returns-clause-rises c = sorted_rises c.sort_unstable.new.self.items c.dedup.new.self.items c.sort_unstable.ensures.sorted c.dedup.ensures.filtered

pub returns-clause-same : goal.returns-clause-same
returns-clause-same c = sort_same c.args.list.items c.sort_unstable.new.self.items c.dedup.new.self.items c.sort_unstable.ensures.permutation c.dedup.ensures.filtered
