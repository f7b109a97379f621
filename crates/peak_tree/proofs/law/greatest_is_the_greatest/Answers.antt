use Rattle.peak_tree.proofs.LawLemmas.{greatest_is}
use Rattle.peak_tree.proofs.law.greatest_is_the_greatest.Goals as goal

pub returns : goal.returns
returns c = greatest_is
