use Rattle.clustering.proofs.InPartLemmas.{kept_clustered}
use Rattle.clustering.proofs.law.kept_jobs_are_clustered.Goals as goal

pub returns : goal.returns
returns c = kept_clustered
