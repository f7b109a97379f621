use Rattle.toolbox.proofs.LinesLemmas.{written_lines}
use Rattle.toolbox.proofs.law.written_lines_are_the_text.Goals as goal

pub returns : goal.returns
returns c = written_lines
