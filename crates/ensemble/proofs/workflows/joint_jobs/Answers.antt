use Rattle.std.proofs.Common.{◌≤◌, ◌+◌, List, ap, arith, subst, sym}
use Rattle.std.specs.List.{All}
use Rattle.workflow_core.specs.declared.workflow.Job.{Job}
use Rattle.ensemble.specs.Jobs.{FitsAfter}
use Rattle.ensemble.specs.Member.{IsMember, files_of}
use Rattle.ensemble.proofs.FitLemmas.{files_at_most, jobs_fit}
use Rattle.ensemble.proofs.workflows.joint_jobs.Goals as goal

pub add_jobs-requires : goal.add_jobs-requires
add_jobs-requires c =
    let is : IsMember c.member-item.result = subst IsMember (sym c.member-item.is) (c.requires.members c.loop-member.member-index c.member-item.result c.loop-member-test.true) in
    let most = files_at_most c.args.members.now c.loop-member.member-index c.member-item.result c.loop-member-test.true in
    let same = ap files_of c.member-item.is in
    let behind = c.loop-member.invariant.1 in
    let few = c.requires.few in
    let fits : c.loop-member.first + files_of c.member-item.result ≤ 50000 = omega (arith, most, same, behind, few) in
    subst (λ (js : List Job). All (FitsAfter c.loop-member.first) js) (sym c.as_slice.ensures) (jobs_fit c.loop-member.first c.member-item.result is fits)
