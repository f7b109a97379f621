use Rattle.digraph.proofs.CycleLemmas.{same_cycle}
use Rattle.digraph.proofs.law.the_named_cycle_is_one.Goals as goal

pub returns : goal.returns
returns c = same_cycle
