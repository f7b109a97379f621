use Rattle.peak_tree.proofs.LawLemmas.{length-add_front, add_front-first, add_front-rest}
use Rattle.peak_tree.proofs.law.add_front_by_position.Goals as goal

pub returns-clause-length : goal.returns-clause-length
returns-clause-length c = length-add_front

pub returns-clause-front : goal.returns-clause-front
returns-clause-front c = add_front-first

pub returns-clause-rest : goal.returns-clause-rest
returns-clause-rest c = add_front-rest
