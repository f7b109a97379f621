use Rattle.std.proofs.Common.{◌≡◌, ◌++◌, drop}
use Rattle.ensemble.specs.Workflows.{joint_files}
use Rattle.ensemble.proofs.workflows.joint_files.Given as goal

abbrev pub invariant-loop-member : goal.invariant-loop-member
invariant-loop-member l = l.files.items ++ joint_files (drop l.member-index l.members) ≡ joint_files l.members
