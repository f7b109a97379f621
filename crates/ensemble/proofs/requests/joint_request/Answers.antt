use Rattle.std.proofs.Common.{◌∙◌, refl}
use Rattle.ensemble.proofs.MembersLemmas.{joint_small}
use Rattle.ensemble.proofs.requests.joint_request.Goals as goal

pub returns-clause-limits : goal.returns-clause-limits
returns-clause-limits c = joint_small c.args.members.now c.args.request.now _ c.requires.members c.requires.limits (c.in_ok-execute.ensures ∙ c.as_slice.ensures) c.in_ok-sizes.ensures refl c.policy_copied.ensures refl (c.new-2.ensures ∙ c.new.ensures.items)
