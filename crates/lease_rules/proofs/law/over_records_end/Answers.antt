use Rattle.lease_rules.proofs.OverLemmas.{complete_ends, failing_stays}
use Rattle.lease_rules.proofs.OwningLemmas.{consistent_opened}
use Rattle.lease_rules.specs.State.{opened}
use Rattle.lease_rules.proofs.law.over_records_end.Goals as goal

pub returns-clause-complete : goal.returns-clause-complete
returns-clause-complete c = λ p order r more proper fits legal complete. complete_ends p (opened order) r more (c.storage_laws.ensures p proper) (consistent_opened p order fits) legal complete

pub returns-clause-failing : goal.returns-clause-failing
returns-clause-failing c = λ p order r more h. failing_stays p (opened order) r more h
