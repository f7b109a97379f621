use Rattle.std.proofs.Common.{◌≡◌, ◌++◌, drop, map, ℕ, List}
use Rattle.workflow_reader.specs.Linking.{job_with_id, pairs_from}
use Rattle.workflow_reader.proofs.pairs.add_pairs.Given as goal

abbrev pub invariant-loop-child : goal.invariant-loop-child
invariant-loop-child l = l.pairs.items ++ map (λ (c : List ℕ). (job_with_id l.ids l.dependency.id, job_with_id l.ids c)) (drop l.child-index l.dependency.children) ≡ l.fn.pairs.items ++ pairs_from l.ids l.dependency
