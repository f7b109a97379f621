use Rattle.peak_tree.proofs.LawLemmas.{length-filled, filled-first, filled-rest}
use Rattle.peak_tree.proofs.law.filled_by_position.Goals as goal

pub returns-clause-length : goal.returns-clause-length
returns-clause-length c = length-filled

pub returns-clause-front : goal.returns-clause-front
returns-clause-front c = filled-first

pub returns-clause-rest : goal.returns-clause-rest
returns-clause-rest c = filled-rest
