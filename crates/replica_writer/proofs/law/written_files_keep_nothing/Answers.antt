use Rattle.replica_writer.proofs.KeptLemmas.{flagged_are_held, line_enough, says_enough, text_enough}
use Rattle.replica_writer.proofs.law.written_files_keep_nothing.Goals as goal

pub returns-clause-says : goal.returns-clause-says
returns-clause-says c = says_enough

pub returns-clause-text : goal.returns-clause-text
returns-clause-text c = text_enough

pub returns-clause-line : goal.returns-clause-line
returns-clause-line c = line_enough

pub returns-clause-held : goal.returns-clause-held
returns-clause-held c = flagged_are_held
