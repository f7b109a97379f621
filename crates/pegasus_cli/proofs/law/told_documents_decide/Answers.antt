use Rattle.pegasus_commands.specs.code.Course.{documents}
use Rattle.pegasus_commands.proofs.CourseLemmas.{told_gives}
use Rattle.pegasus_cli.proofs.law.told_documents_decide.Goals as goal

pub returns : goal.returns
returns c = λ files name before after r h. told_gives files (documents name) before after r h
