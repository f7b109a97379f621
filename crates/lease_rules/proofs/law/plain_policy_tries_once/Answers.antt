use Rattle.lease_rules.proofs.PlainLemmas.{plain_no_again, plain_no_regrant, plain_reads}
use Rattle.lease_rules.proofs.law.plain_policy_tries_once.Goals as goal

pub returns-clause-again : goal.returns-clause-again
returns-clause-again c = plain_no_again

pub returns-clause-regrant : goal.returns-clause-regrant
returns-clause-regrant c = plain_no_regrant

pub returns-clause-reads : goal.returns-clause-reads
returns-clause-reads c = λ p order r proper. plain_reads p order r (c.storage_laws.ensures p proper)
