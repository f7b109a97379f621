use Rattle.storage_simulation.proofs.StepsLemmas.{goes_on}
use Rattle.storage_simulation.proofs.order_law.some_task_is_next.Goals as goal

pub returns : goal.returns
returns c = λ p st ts proper none. goes_on p st ts (c.some_task_is_first.ensures p proper) (λ t u. c.parents_come_before.ensures.in_range p proper t u) none
