use Rattle.std.proofs.Common.{◌∙◌, ◌++◌, List, ap, arith}
use Rattle.values.specs.declared.numbers.JobId.{JobId}
use Rattle.transfer_refiner.specs.code.Edges.{part_edges}
use Rattle.transfer_refiner.specs.code.View.{draft_of}
use Rattle.transfer_refiner.proofs.PushLemmas.{flat_pushed}
use Rattle.transfer_refiner.proofs.edges.stood_edges.Goals as goal

pub loop-jobs-preserved : goal.loop-jobs-preserved
loop-jobs-preserved c = flat_pushed (part_edges (draft_of c.args.view.now)) c.args.view.now.parts.now c.loop-jobs.jobs-index c.jobs-item.result c.loop-jobs.edges.items c.push_part.new.edges.items _ (omega arith) c.jobs-item.is
    (c.in_ok-push_part.ensures ∙ ap (λ (js : List JobId). c.loop-jobs.edges.items ++ part_edges (draft_of c.args.view.now) js) c.as_slice.ensures) c.loop-jobs.invariant
