use Rattle.std.proofs.Common.{◌≡◌, ◌<◌, drop}
use Rattle.clustering.specs.Numbers.{value_from}
use Rattle.clustering.proofs.NumbersLemmas.{bound}
use Rattle.clustering.proofs.numbers.value_of.Given as goal

abbrev pub invariant-loop-digit : goal.invariant-loop-digit
invariant-loop-digit l = (value_from l.value (drop l.digit-index l.digits) ≡ value_from 0 l.digits) × (l.value < bound l.digit-index)
