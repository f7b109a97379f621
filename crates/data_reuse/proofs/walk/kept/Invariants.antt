use Rattle.data_reuse.specs.Absent.{absent_in}
use Rattle.data_reuse.proofs.WalkLemmas.{IsWalked}
use Rattle.data_reuse.proofs.walk.kept.Given as goal

abbrev pub invariant-loop-place : goal.invariant-loop-place
invariant-loop-place l = IsWalked (absent_in l.workflow l.replicas.entries l.force) l.workflow l.graph l.kept.items l.needed.items l.place
