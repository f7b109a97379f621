use Rattle.plan_core.proofs.CarriedLemmas.{parent_writes}
use Rattle.plan_core.proofs.law.parents_write_what_is_read.Goals as goal

pub returns : goal.returns
returns c = parent_writes
