use Rattle.std.proofs.Common.{drop}
use Rattle.pegasus_commands.specs.code.Moments.{docs_moment}
use Rattle.pegasus_commands.proofs.EnsemblesLemmas.{AreSoFar}
use Rattle.pegasus_commands.proofs.ensembles.read_members.Given as goal

abbrev pub invariant-loop-entry : goal.invariant-loop-entry
invariant-loop-entry g l = AreSoFar l.ensemble l.entry-items (docs_moment g.D.Docs l.initial.docs) (docs_moment g.D.Docs l.docs) (drop l.entry-index l.entry-items) l.members.items
