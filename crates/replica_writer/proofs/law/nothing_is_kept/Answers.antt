use Rattle.replica_writer.proofs.KeptLemmas.{keeps_nothing}
use Rattle.replica_writer.proofs.law.nothing_is_kept.Goals as goal

pub returns : goal.returns
returns c = keeps_nothing
