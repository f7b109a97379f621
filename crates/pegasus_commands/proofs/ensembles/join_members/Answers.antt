use Rattle.pegasus_commands.proofs.ensembles.join_members.Goals as goal

pub returns-in-Ok-clause-means : goal.returns-in-Ok-clause-means
returns-in-Ok-clause-means c = c.joint_means_the_members.ensures c.args.members.now c.in_ok-request.request c.in-Ok.joint c.requires.members c.in-Ok.ensures
