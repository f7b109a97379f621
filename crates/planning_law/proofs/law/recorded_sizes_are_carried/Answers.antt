use Rattle.planning_law.proofs.SizesLemmas.{sizes_are_carried}
use Rattle.planning_law.proofs.law.recorded_sizes_are_carried.Goals as goal

pub returns : goal.returns
returns c = λ apply p order r store proper fits legal opening. sizes_are_carried apply p order r store (c.plan_laws.ensures p proper) (c.records_read.ensures p order r proper fits legal) opening
