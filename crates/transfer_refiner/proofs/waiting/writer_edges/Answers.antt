use Rattle.std.proofs.Common.{◌∙◌, ◌++◌, ℕ, List, ap, sym}
use Rattle.plan_core.specs.Words.{pair_numbers}
use Rattle.transfer_refiner.specs.code.Edges.{Edge, fan}
use Rattle.transfer_refiner.specs.code.Steps.{writer_edges}
use Rattle.transfer_refiner.proofs.WritersLemmas.{writer_more}
use Rattle.transfer_refiner.proofs.waiting.writer_edges.Goals as goal

pub loop-task-preserved : goal.loop-task-preserved
loop-task-preserved c =
    c.in_ok-push_pairs.ensures ∙ ap (λ (es : List Edge). es ++ fan c.loop-task.task (pair_numbers c.writes_at.result.now)) c.loop-task.invariant
    ∙ ap (λ (qs : List ℕ). writer_edges c.args.tasks.now c.loop-task.task ++ fan c.loop-task.task qs) c.writes_at.ensures ∙ sym (writer_more c.args.tasks.now c.loop-task.task)
