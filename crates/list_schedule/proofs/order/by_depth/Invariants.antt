use Rattle.std.proofs.Common.{◌≡◌}
use Rattle.dependency_graph.specs.code.Ranking.{leveled}
use Rattle.list_schedule.specs.code.Tables.{depths}
use Rattle.list_schedule.proofs.order.by_depth.Given as goal

abbrev pub invariant-loop-job : goal.invariant-loop-job
invariant-loop-job l = l.jobs.items ≡ leveled l.kept (depths l.ranks) l.job
