use Rattle.run_record.proofs.FaultLemmas.{not_malformed, one_malformed}
use Rattle.run_record.proofs.law.malformed_line_is_one.Goals as goal

pub returns-clause-none : goal.returns-clause-none
returns-clause-none c = not_malformed

pub returns-clause-one : goal.returns-clause-one
returns-clause-one c = one_malformed
