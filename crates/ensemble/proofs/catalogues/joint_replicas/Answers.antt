use Rattle.std.proofs.Common.{◌∙◌}
use Rattle.ensemble.proofs.MembersLemmas.{joint_joined}
use Rattle.ensemble.proofs.catalogues.joint_replicas.Goals as goal

pub returns-clause-joined : goal.returns-clause-joined
returns-clause-joined c = joint_joined c.names_are_numbered.ensures c.args.members.now _ c.requires (c.new.ensures ∙ c.in_ok-entries.ensures)
