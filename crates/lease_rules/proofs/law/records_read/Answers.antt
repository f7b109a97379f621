use Rattle.lease_rules.proofs.ReadingLemmas.{record_reads}
use Rattle.lease_rules.proofs.law.records_read.Goals as goal

pub returns : goal.returns
returns c = λ p order r proper. record_reads p order r (c.storage_laws.ensures p proper)
