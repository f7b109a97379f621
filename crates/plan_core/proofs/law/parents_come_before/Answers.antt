use Rattle.plan_core.proofs.LawLemmas.{reader_waits, clean_waits, clean_touches_nothing}
use Rattle.plan_core.proofs.CarriedLemmas.{low_parent}
use Rattle.plan_core.proofs.law.parents_come_before.Goals as goal

pub returns-clause-readers : goal.returns-clause-readers
returns-clause-readers c = reader_waits

pub returns-clause-cleans : goal.returns-clause-cleans
returns-clause-cleans c = clean_waits

pub returns-clause-nothing : goal.returns-clause-nothing
returns-clause-nothing c = clean_touches_nothing

pub returns-clause-in_range : goal.returns-clause-in_range
returns-clause-in_range c p proper t u = low_parent p proper u t
