use Rattle.std.proofs.Common.{◌≤◌, ◌+◌, List, ap, arith, subst, sym}
use Rattle.std.specs.List.{All}
use Rattle.values.specs.declared.numbers.JobId.{JobId}
use Rattle.ensemble.specs.Jobs.{PairFitsAfter}
use Rattle.ensemble.specs.Member.{IsMember, jobs_of}
use Rattle.ensemble.proofs.FitLemmas.{jobs_at_most, pairs_fit}
use Rattle.ensemble.proofs.workflows.joint_pairs.Goals as goal

pub add_pairs-requires : goal.add_pairs-requires
add_pairs-requires c =
    let is : IsMember c.member-item.result = subst IsMember (sym c.member-item.is) (c.requires.members c.loop-member.member-index c.member-item.result c.loop-member-test.true) in
    let most = jobs_at_most c.args.members.now c.loop-member.member-index c.member-item.result c.loop-member-test.true in
    let same = ap jobs_of c.member-item.is in
    let behind = c.loop-member.invariant.1 in
    let few = c.requires.few in
    let fits : c.loop-member.first + jobs_of c.member-item.result ≤ 10000 = omega (arith, most, same, behind, few) in
    subst (λ (ps : List (JobId × JobId)). All (PairFitsAfter c.loop-member.first) ps) (sym c.as_slice.ensures) (pairs_fit c.loop-member.first c.member-item.result is fits)
