use Rattle.std.proofs.Common.{◌≡◌, ◌++◌}
use Rattle.std.specs.List.{flat_map}
use Rattle.workload_maker.specs.Jobs.{each, followed}
use Rattle.workload_maker.specs.Workflow.{project}
use Rattle.workload_maker.proofs.workflow.push_projects.Given as goal

abbrev pub invariant-loop-number : goal.invariant-loop-number
invariant-loop-number l = l.text.items ≡ l.initial.text.items ++ flat_map followed (each l.number project)
