use Rattle.std.proofs.Common.{◌≡◌, ◌++◌, drop, map}
use Rattle.ensemble.specs.Jobs.{pair_after}
use Rattle.ensemble.proofs.jobs.add_pairs.Given as goal

abbrev pub invariant-loop-pair : goal.invariant-loop-pair
invariant-loop-pair l = l.pairs.items ++ map (pair_after l.first) (drop l.pair-index l.more) ≡ l.fn.pairs.items ++ map (pair_after l.first) l.more
