use Rattle.plan_core.specs.Carried.{carried}
use Rattle.lease_rules.specs.State.{now, opened}
use Rattle.site_yard.proofs.AgreesLemmas.{legal_parts, truthful_since}
use Rattle.site_yard.proofs.FaultsLemmas.{all_below, alone_counted, nothing_else}
use Rattle.site_yard.proofs.faults.nothing_else_fails.Goals as goal

pub returns-clause-below : goal.returns-clause-below
returns-clause-below c = λ apply told p order r fault n proper legal is all below h. nothing_else apply told p (c.plan_laws.ensures p proper) (opened order) r fault n legal is all below h

pub returns-clause-alone : goal.returns-clause-alone
returns-clause-alone c = λ apply told p order r fault proper legal is all below h. alone_counted r fault (nothing_else apply told p (c.plan_laws.ensures p proper) (opened order) r fault 1 legal is all below h)

pub returns-clause-workers : goal.returns-clause-workers
returns-clause-workers c = λ p order. all_below p (opened order)

pub returns-clause-since : goal.returns-clause-since
returns-clause-since c = λ apply told p order first r fault n proper legal is all below h. nothing_else apply told p (c.plan_laws.ensures p proper) (now p order first) r fault n (legal_parts p (opened order) first r legal).1 (truthful_since apply told p (carried apply told p) first r is) all below h
