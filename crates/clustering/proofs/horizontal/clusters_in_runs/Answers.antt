use Rattle.clustering.specs.Basis.{same_group}
use Rattle.clustering.proofs.ConditionLemmas.{are_groups}
use Rattle.clustering.proofs.horizontal.clusters_in_runs.Goals as goal

pub runs_of-requires : goal.runs_of-requires
runs_of-requires c = are_groups c.args.kept.now c.args.basis.now.levels (same_group c.args.basis.now) c.args.jobs.now c.requires.few c.requires.ranked
