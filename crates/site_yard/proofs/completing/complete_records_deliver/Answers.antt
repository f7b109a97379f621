use Rattle.site_yard.proofs.CompletingLemmas.{complete_delivers, delivered_by}
use Rattle.site_yard.proofs.completing.complete_records_deliver.Goals as goal

pub returns-clause-complete : goal.returns-clause-complete
returns-clause-complete c = λ p order r proper fits. complete_delivers p order (c.record_laws.ensures p order proper fits) r

pub returns-clause-only : goal.returns-clause-only
returns-clause-only c = delivered_by
