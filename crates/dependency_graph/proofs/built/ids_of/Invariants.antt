use Rattle.std.proofs.Common.{◌≡◌, map, take}
use Rattle.dependency_graph.specs.code.Built.{id_of}
use Rattle.dependency_graph.proofs.built.ids_of.Given as goal

abbrev pub invariant-loop-job : goal.invariant-loop-job
invariant-loop-job l = l.ids.items ≡ map (id_of l.workflow) (take l.job-index l.jobs)
