use Rattle.lease_rules.proofs.SafeLemmas.{always_safe, sums_are_usage}
use Rattle.lease_rules.proofs.law.legal_records_are_safe.Goals as goal

pub returns-clause-always : goal.returns-clause-always
returns-clause-always c = λ p order r proper. always_safe p order r (c.storage_laws.ensures p proper)

pub returns-clause-sums : goal.returns-clause-sums
returns-clause-sums c = sums_are_usage
