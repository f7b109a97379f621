use Rattle.std.proofs.Common.{arith}
use Rattle.std.proofs.lemmas.Grind.{common_steps}
use Rattle.clustering.specs.code.Basis.{group_of}
use Rattle.clustering.proofs.runs.groups.Goals as goal

pub returns : goal.returns
returns c = c.in_ok-groups.ensures (group_of c.args.basis.now) c.args.jobs.now (grind (arith, common_steps))
