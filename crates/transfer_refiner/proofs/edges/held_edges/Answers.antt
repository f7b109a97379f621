use Rattle.std.proofs.Common.{◌∙◌, ◌++◌, List, ap, sym}
use Rattle.values.specs.declared.numbers.JobId.{JobId}
use Rattle.plan_core.specs.Words.{job_numbers}
use Rattle.transfer_refiner.specs.code.Edges.{Edge, fan, held_edges}
use Rattle.transfer_refiner.specs.code.View.{draft_of}
use Rattle.transfer_refiner.proofs.EdgesLemmas.{held_more}
use Rattle.transfer_refiner.proofs.edges.held_edges.Goals as goal

pub loop-number-preserved : goal.loop-number-preserved
loop-number-preserved c =
    c.in_ok-push_jobs.ensures ∙ ap (λ (es : List Edge). es ++ fan c.loop-number.number (job_numbers c.part.result.now)) c.loop-number.invariant
    ∙ ap (λ (js : List JobId). held_edges (draft_of c.args.view.now) c.loop-number.number ++ fan c.loop-number.number (job_numbers js)) c.part.ensures ∙ sym (held_more (draft_of c.args.view.now) c.loop-number.number)
