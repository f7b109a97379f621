use Rattle.lease_rules.proofs.OwningLemmas.{consistent_opened, open_tells, own_tell}
use Rattle.lease_rules.specs.State.{opened}
use Rattle.lease_rules.proofs.law.own_entries_tell_open_tasks.Goals as goal

pub returns-clause-decides : goal.returns-clause-decides
returns-clause-decides c = open_tells

pub returns-clause-entries : goal.returns-clause-entries
returns-clause-entries c = λ p order r w t proper fits legal. own_tell p (opened order) r w t (c.storage_laws.ensures p proper) (consistent_opened p order fits) legal
