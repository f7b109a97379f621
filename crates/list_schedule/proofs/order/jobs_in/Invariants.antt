use Rattle.std.proofs.Common.{◌≡◌, ◌++◌, drop}
use Rattle.dependency_graph.specs.Graph.{numbers}
use Rattle.dependency_graph.specs.code.Ranking.{numbers_in}
use Rattle.list_schedule.proofs.order.jobs_in.Given as goal

abbrev pub invariant-loop-job : goal.invariant-loop-job
invariant-loop-job l = numbers l.ids.items ++ numbers_in (drop l.job-index l.jobs) ≡ numbers_in l.jobs
