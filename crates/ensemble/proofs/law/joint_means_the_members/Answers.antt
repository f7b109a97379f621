use Rattle.ensemble.proofs.MeansLemmas.{means}
use Rattle.ensemble.proofs.law.joint_means_the_members.Goals as goal

pub returns : goal.returns
returns c = means c.names_are_numbered.ensures c.value_is_determined.ensures.fits c.value_is_determined.ensures.alone
