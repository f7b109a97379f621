use Rattle.plan_core.proofs.PairLemmas.{has_file_writer, one_file_writer}
use Rattle.plan_core.proofs.law.each_pair_has_one_writer.Goals as goal

pub returns-clause-some : goal.returns-clause-some
returns-clause-some c = has_file_writer

pub returns-clause-one : goal.returns-clause-one
returns-clause-one c = one_file_writer
