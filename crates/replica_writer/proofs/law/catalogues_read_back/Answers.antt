use Rattle.replica_writer.proofs.WriterLemmas.{line_reads_back, text_reads_back}
use Rattle.replica_writer.proofs.law.catalogues_read_back.Goals as goal

pub returns-clause-text : goal.returns-clause-text
returns-clause-text c = text_reads_back

pub returns-clause-line : goal.returns-clause-line
returns-clause-line c = line_reads_back
