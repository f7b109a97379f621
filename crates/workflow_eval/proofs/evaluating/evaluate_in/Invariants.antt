use Rattle.std.proofs.Common.{◌≡◌, ◌+◌, ◌≤◌, length}
use Rattle.dependency_graph.specs.Value.{basis}
use Rattle.workflow_eval.proofs.JobLemmas.{Evaluated}
use Rattle.workflow_eval.proofs.EvaluatingLemmas.{NoneBefore}
use Rattle.workflow_eval.proofs.evaluating.evaluate_in.Given as goal

abbrev pub invariant-loop-number : goal.invariant-loop-number
invariant-loop-number g l =
    (length l.table.items ≡ length l.workflow.files)
    × Evaluated (basis g.T.Tool.apply l.tools l.fn.table.items) l.workflow l.graph.ordered l.number-index l.table.items
    × NoneBefore (basis g.T.Tool.apply l.tools l.fn.table.items) l.workflow l.graph.ordered l.number-index
    × (g.T.Tool.faults l.initial.tool ≤ g.T.Tool.faults l.tool)
    × (g.T.Tool.runs l.tool ≤ g.T.Tool.runs l.initial.tool + l.number-index)
