use Rattle.std.proofs.Common.{◌≡◌, take}
use Rattle.storage_simulation.specs.code.Change.{size_part}
use Rattle.storage_simulation.specs.Goods.{makes}
use Rattle.storage_simulation.specs.Usage.{sum_of}
use Rattle.place_peaks.proofs.goods.made_size.Given as goal

abbrev pub invariant-loop-k : goal.invariant-loop-k
invariant-loop-k l = l.sum ≡ sum_of (size_part l.plan l.place) (take l.k (makes l.plan l.task))
