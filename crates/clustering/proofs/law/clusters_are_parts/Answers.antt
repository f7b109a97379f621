use Rattle.clustering.proofs.LawLemmas.{clusters_parts}
use Rattle.clustering.proofs.law.clusters_are_parts.Goals as goal

pub returns : goal.returns
returns c = clusters_parts
