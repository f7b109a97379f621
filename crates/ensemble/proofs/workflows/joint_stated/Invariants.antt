use Rattle.std.proofs.Common.{◌≡◌, ◌++◌, drop}
use Rattle.ensemble.specs.Workflows.{joint_stated}
use Rattle.ensemble.proofs.workflows.joint_stated.Given as goal

abbrev pub invariant-loop-member : goal.invariant-loop-member
invariant-loop-member l = l.sizes.items ++ joint_stated (drop l.member-index l.members) ≡ joint_stated l.members
