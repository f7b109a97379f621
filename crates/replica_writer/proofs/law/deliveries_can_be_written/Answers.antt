use Rattle.replica_writer.proofs.DeliveriesLemmas.{can_be_written}
use Rattle.replica_writer.proofs.law.deliveries_can_be_written.Goals as goal

pub returns : goal.returns
returns c = can_be_written c.numbers_are_in_range.ensures.kinds c.records_read.ensures
