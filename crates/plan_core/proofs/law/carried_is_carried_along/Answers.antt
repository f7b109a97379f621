use Rattle.plan_core.proofs.CarriedLemmas.{carries_along, alone}
use Rattle.plan_core.proofs.law.carried_is_carried_along.Goals as goal

pub returns-clause-fits : goal.returns-clause-fits
returns-clause-fits c = carries_along

pub returns-clause-alone : goal.returns-clause-alone
returns-clause-alone c = alone
