use Rattle.std.proofs.Common.{ap, length, subst, sym, ◌∙◌}
use Rattle.ensemble.specs.Member.{IsMember}
use Rattle.ensemble.proofs.FitLemmas.{one_size_each}
use Rattle.ensemble.proofs.requests.joint_sizes.Goals as goal

pub add_sizes-requires : goal.add_sizes-requires
add_sizes-requires c =
    let is : IsMember c.member-item.result = subst IsMember (sym c.member-item.is) (c.requires c.loop-member.member-index c.member-item.result c.loop-member-test.true) in
    record { one_for_each_file = ap length c.as_slice-files.ensures ∙ one_size_each c.member-item.result is ∙ sym (ap length c.as_slice-stated.ensures) }
