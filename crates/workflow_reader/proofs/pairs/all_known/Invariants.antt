use Rattle.std.proofs.Common.{◌≡◌, drop}
use Rattle.peg_json.specs.Elements.{first_unknown}
use Rattle.workflow_reader.specs.Linking.{ids_in}
use Rattle.workflow_reader.proofs.pairs.all_known.Given as goal

abbrev pub invariant-loop-dependency : goal.invariant-loop-dependency
invariant-loop-dependency l = first_unknown l.ids (ids_in (drop l.dependency-index l.dependencies)) ≡ first_unknown l.ids (ids_in l.dependencies)
