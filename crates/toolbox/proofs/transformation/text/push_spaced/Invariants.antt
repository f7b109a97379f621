use Rattle.std.proofs.Common.{◌≡◌, ◌++◌, drop}
use Rattle.toolbox.specs.Transformation.Text.{spaced}
use Rattle.toolbox.proofs.transformation.text.push_spaced.Given as goal

abbrev pub invariant-loop-word : goal.invariant-loop-word
invariant-loop-word l = l.line.items ++ spaced (drop l.word-index l.words) ≡ l.fn.line.items ++ spaced l.words
