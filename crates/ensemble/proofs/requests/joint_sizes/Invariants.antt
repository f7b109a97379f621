use Rattle.std.proofs.Common.{◌≡◌, ◌++◌, drop}
use Rattle.ensemble.specs.Requests.{joint_sizes}
use Rattle.ensemble.proofs.requests.joint_sizes.Given as goal

abbrev pub invariant-loop-member : goal.invariant-loop-member
invariant-loop-member l = l.sizes.items ++ joint_sizes (drop l.member-index l.members) ≡ joint_sizes l.members
