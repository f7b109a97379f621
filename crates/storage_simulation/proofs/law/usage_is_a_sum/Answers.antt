use Rattle.storage_simulation.proofs.ReadingLemmas.{usage_at_output, usage_at_site}
use Rattle.storage_simulation.proofs.law.usage_is_a_sum.Goals as goal

pub returns : goal.returns
returns c = record { site = usage_at_site; output = λ p size front b proper out. usage_at_output p size front b proper (c.proper_plans_keep_goods.ensures p proper) out }
