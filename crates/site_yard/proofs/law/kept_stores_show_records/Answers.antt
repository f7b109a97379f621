use Rattle.site_yard.proofs.AgreesLemmas.{agrees}
use Rattle.site_yard.proofs.law.kept_stores_show_records.Goals as goal

pub returns : goal.returns
returns c = λ apply p order first r s m faults misses now proper fits legal kept. agrees p proper (c.plan_laws.ensures p proper) order (c.record_laws.ensures p order proper fits) apply first r m s faults misses now legal kept
