use Rattle.std.proofs.Common.{◌≡◌, ◌++◌, length}
use Rattle.toolbox.specs.Transformation.Deal.{texts_of}
use Rattle.toolbox.proofs.transformation.deal.outputs.Given as goal

abbrev pub invariant-loop-text : goal.invariant-loop-text
invariant-loop-text l =
    (l.outputs.items ++ texts_of l.text-iterator.rest.items ≡ texts_of l.fn.texts.items)
    × (l.text-iterator.rest.len ≡ length l.text-iterator.rest.items)
