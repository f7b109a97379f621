use Rattle.record_audit.proofs.PartLemmas.{part_of_record}
use Rattle.record_audit.proofs.law.printed_records_are_read.Goals as goal

pub returns : goal.returns
returns c = λ r rest are. part_of_record r rest are
