use Rattle.std.proofs.Common.{◌≡◌, map, take}
use Rattle.transfer_refiner.specs.Tasks.{planned_site}
use Rattle.transfer_refiner.proofs.copying.sites_of.Given as goal

abbrev pub invariant-loop-execution : goal.invariant-loop-execution
invariant-loop-execution l = l.sites.items ≡ map planned_site (take l.execution-index l.execute)
