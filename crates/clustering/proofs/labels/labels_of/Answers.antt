use Rattle.std.proofs.Common.{arith}
use Rattle.std.proofs.lemmas.Grind.{common_steps}
use Rattle.clustering.specs.code.Labels.{label_key}
use Rattle.clustering.specs.Labels.{labels_of}
use Rattle.clustering.proofs.labels.labels_of.Goals as goal

pub returns : goal.returns
unfolding labels_of
returns c = c.in_ok-parts.ensures (label_key c.args.basis.now) c.args.jobs.now (grind (arith, common_steps))
