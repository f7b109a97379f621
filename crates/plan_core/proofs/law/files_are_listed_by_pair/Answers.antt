use Rattle.plan_core.proofs.LawLemmas.{reads_listed, writes_listed, listed_in_range}
use Rattle.plan_core.proofs.law.files_are_listed_by_pair.Goals as goal

pub returns-clause-reads : goal.returns-clause-reads
returns-clause-reads c = reads_listed

pub returns-clause-writes : goal.returns-clause-writes
returns-clause-writes c = writes_listed

pub returns-clause-in_range : goal.returns-clause-in_range
returns-clause-in_range c = listed_in_range
