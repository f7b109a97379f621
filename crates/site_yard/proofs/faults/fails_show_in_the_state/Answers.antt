use Rattle.site_yard.proofs.FailingLemmas.{failing_some, none_unfailing, unfailing_none}
use Rattle.site_yard.proofs.faults.fails_show_in_the_state.Goals as goal

pub returns-clause-none : goal.returns-clause-none
returns-clause-none c = none_unfailing

pub returns-clause-unfailing : goal.returns-clause-unfailing
returns-clause-unfailing c = unfailing_none

pub returns-clause-failing : goal.returns-clause-failing
returns-clause-failing c = failing_some
