use Rattle.std.proofs.Common.{◌≡◌, ◌++◌, drop}
use Rattle.std.specs.List.{flat_map}
use Rattle.dependency_graph.specs.Graph.{numbers}
use Rattle.list_schedule.specs.code.Board.{schedule_of}
use Rattle.planner.specs.code.Scheduling.{schedule_line}
use Rattle.planner.proofs.schedule_lines.push_jobs.Given as goal

abbrev pub invariant-loop-job : goal.invariant-loop-job
invariant-loop-job l =
    l.text.items ++ flat_map (schedule_line l.workflow (schedule_of l.heft)) (numbers (drop l.job-index l.order)) ≡ l.fn.text.items ++ flat_map (schedule_line l.workflow (schedule_of l.heft)) (numbers l.order)
