use Rattle.std.proofs.Common.{◌≡◌, ◌++◌, drop}
use Rattle.dependency_graph.specs.Graph.{numbers as job_numbers}
use Rattle.clustering.proofs.singles.ids.Given as goal

abbrev pub invariant-loop-number : goal.invariant-loop-number
invariant-loop-number l = job_numbers l.jobs.items ++ drop l.number-index l.numbers ≡ l.numbers
