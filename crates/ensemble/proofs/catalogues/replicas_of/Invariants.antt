use Rattle.std.proofs.Common.{◌≡◌, ◌++◌, drop}
use Rattle.ensemble.specs.Catalogues.{joint_replicas}
use Rattle.ensemble.proofs.catalogues.replicas_of.Given as goal

abbrev pub invariant-loop-member : goal.invariant-loop-member
invariant-loop-member l = l.entries.items ++ joint_replicas (drop l.member-index l.members) ≡ joint_replicas l.members
