use Rattle.toolbox.proofs.SortedLemmas.{rises_in_order, times_in_order}
use Rattle.toolbox.proofs.law.lines_in_order_rise.Goals as goal

pub returns-clause-rise : goal.returns-clause-rise
returns-clause-rise c = rises_in_order

pub returns-clause-kept : goal.returns-clause-kept
returns-clause-kept c = times_in_order
