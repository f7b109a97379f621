use Rattle.std.proofs.Common.{◌≡◌, ◌++◌, drop}
use Rattle.ensemble.specs.Requests.{joint_tools}
use Rattle.ensemble.proofs.requests.joint_tools.Given as goal

abbrev pub invariant-loop-member : goal.invariant-loop-member
invariant-loop-member l = l.tools.items ++ joint_tools (drop l.member-index l.members) ≡ joint_tools l.members
