use Rattle.std.proofs.Common.{◌≡◌, map, take}
use Rattle.workflow_core.specs.declared.workflow.Job.{Job}
use Rattle.workflow_core.specs.WellFormed.{inputs_of}
use Rattle.digraph.specs.code.Adjacency.{lists_of}
use Rattle.dependency_graph.specs.code.Sources.{found}
use Rattle.dependency_graph.proofs.sources.sources.Given as goal

abbrev pub invariant-loop-job : goal.invariant-loop-job
invariant-loop-job l = lists_of l.lists.items ≡ map (λ (j : Job). found l.producers (inputs_of j)) (take l.job-index l.jobs)
