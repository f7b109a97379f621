use Rattle.lease_rules.proofs.OneLemmas.{one_choice, one_fresh}
use Rattle.lease_rules.proofs.law.choice_is_one.Goals as goal

pub returns : goal.returns
returns c = record { choice = one_choice; fresh = one_fresh }
