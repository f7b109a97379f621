use Rattle.std.proofs.Common.{◌≡◌, ◌∷◌, drop}
use Rattle.peg_json.specs.Elements.{first_unknown}
use Rattle.workflow_reader.proofs.pairs.unknown_in.Given as goal

abbrev pub invariant-loop-child : goal.invariant-loop-child
invariant-loop-child l = first_unknown l.ids (drop l.child-index l.dependency.children) ≡ first_unknown l.ids (l.dependency.id ∷ l.dependency.children)
