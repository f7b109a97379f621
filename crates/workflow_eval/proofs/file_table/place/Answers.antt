use Rattle.std.proofs.Common.{◌≡◌, ◌-◌, arith, sym, length, ◌∙◌}
use Rattle.std.proofs.lemmas.List.{length-map, get_or-map}
use Rattle.workflow_core.specs.WellFormed.{outputs_of}
use Rattle.workflow_core.specs.declared.workflow.Output.{Output}
use Rattle.std.proofs.lemmas.Grind.{common_steps}
use Rattle.workflow_eval.proofs.FileTableLemmas.{split_last, place_more}
use Rattle.workflow_eval.proofs.file_table.place.Goals as goal

pub loop-at-preserved-in-Some : goal.loop-at-preserved-in-Some
loop-at-preserved-in-Some c =
    let kept = c.loop-at.invariant in
    let many : length (outputs_of c.args.job.now) ≡ length c.args.job.now.outputs = length-map c.args.job.now.outputs (λ (o : Output). o.file.0) in
    let popped = split_last _ _ c.loop-at.at _ c.loop-at-test.true (omega (arith, kept.0, c.requires.same)) (sym kept.1 ∙ c.in-Some.ensures.items) in
    rw c.as_slice-outputs.ensures (
      omega (arith, kept.0),
      popped.0,
      place_more (outputs_of c.args.job.now) _ c.loop-at.at _ _ _ _ c.loop-at-test.true (omega (arith, kept.0, many)) (many ∙ c.requires.same) (get_or-map (λ (o : Output). o.file.0) c.args.job.now.outputs (c.loop-at.at - 1) _ _ (omega (arith, kept.0, c.loop-at-test.true))) popped.1 kept.2,
      grind (arith, common_steps, kept.3),
    )

pub loop-at-preserved-in-Some-2 : goal.loop-at-preserved-in-Some-2
loop-at-preserved-in-Some-2 c =
    let kept = c.loop-at.invariant in
    let many : length (outputs_of c.args.job.now) ≡ length c.args.job.now.outputs = length-map c.args.job.now.outputs (λ (o : Output). o.file.0) in
    let popped = split_last _ _ c.loop-at.at _ c.loop-at-test.true (omega (arith, kept.0, c.requires.same)) (sym kept.1 ∙ c.in-Some.ensures.items) in
    rw c.as_slice-outputs.ensures (
      omega (arith, kept.0),
      popped.0,
      place_more (outputs_of c.args.job.now) _ c.loop-at.at _ _ _ _ c.loop-at-test.true (omega (arith, kept.0, many)) (many ∙ c.requires.same) (get_or-map (λ (o : Output). o.file.0) c.args.job.now.outputs (c.loop-at.at - 1) _ _ (omega (arith, kept.0, c.loop-at-test.true))) popped.1 kept.2,
      grind (arith, common_steps, kept.3),
    )
