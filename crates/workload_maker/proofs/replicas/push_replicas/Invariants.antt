use Rattle.std.proofs.Common.{◌≡◌, ◌++◌}
use Rattle.std.specs.List.{flat_map}
use Rattle.workload_maker.specs.Jobs.{each, with_comma}
use Rattle.workload_maker.specs.Replicas.{replica_text}
use Rattle.workload_maker.proofs.replicas.push_replicas.Given as goal

abbrev pub invariant-loop-number : goal.invariant-loop-number
invariant-loop-number l = l.text.items ≡ l.initial.text.items ++ flat_map with_comma (each l.number replica_text)
