use Rattle.std.proofs.Common.{◌≡◌, ◌++◌, drop}
use Rattle.workflow_reader.specs.Linking.{dependency_pairs}
use Rattle.workflow_reader.proofs.pairs.pairs_of.Given as goal

abbrev pub invariant-loop-dependency : goal.invariant-loop-dependency
invariant-loop-dependency l = l.pairs.items ++ dependency_pairs l.ids (drop l.dependency-index l.dependencies) ≡ dependency_pairs l.ids l.dependencies
