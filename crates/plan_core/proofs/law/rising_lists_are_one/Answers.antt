use Rattle.plan_core.proofs.RisingLemmas.{rising_is_below}
use Rattle.plan_core.proofs.law.rising_lists_are_one.Goals as goal

pub returns : goal.returns
returns c = rising_is_below
