use Rattle.std.proofs.Common.{◌≡◌, true, map}
use Rattle.plan_core.specs.Numbers.{below}
use Rattle.cleanup_refiner.specs.Cleans.{clean_of}
use Rattle.cleanup_refiner.proofs.cleans.cleans_of.Given as goal

abbrev pub invariant-loop-q : goal.invariant-loop-q
invariant-loop-q l = l.cleans.items ≡ map (clean_of l.plan) (below l.q (λ n. true))
