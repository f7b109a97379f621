use Rattle.lease_rules.proofs.StartLemmas.{no_ready_clean}
use Rattle.lease_rules.proofs.law.no_clean_begins_afresh.Goals as goal

pub returns : goal.returns
returns c = λ p s t proper. no_ready_clean p s t (c.storage_laws.ensures p proper)
