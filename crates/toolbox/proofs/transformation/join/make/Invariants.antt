use Rattle.std.proofs.Common.{◌≡◌, ◌++◌, drop}
use Rattle.toolbox.specs.Transformation.Join.{joined}
use Rattle.toolbox.proofs.transformation.join.make.Given as goal

abbrev pub invariant-loop-piece : goal.invariant-loop-piece
invariant-loop-piece l = l.bytes.items ++ joined (drop l.piece-index l.ins) ≡ joined l.ins
