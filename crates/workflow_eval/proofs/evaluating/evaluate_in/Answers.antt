use Rattle.std.proofs.Common.{◌≡◌, [], arith, ap, length, refl, ◌∙◌}
use Rattle.std.proofs.lemmas.List.{get_or_default}
use Rattle.std.proofs.lemmas.Result.{err_from_is_err_and}
use Rattle.workflow_core.specs.WellFormed.{outputs_of}
use Rattle.dependency_graph.specs.Value.{basis}
use Rattle.workflow_eval.proofs.PlaceLemmas.{length_placed, all_below}
use Rattle.workflow_eval.proofs.JobLemmas.{bases_stand, job_at, inputs_there, made_of, places_there, evaluated_more}
use Rattle.workflow_eval.proofs.EvaluatingLemmas.{none_at_first, none_before_more, ends_with, is_reached, all_there, ends_well}
use Rattle.workflow_eval.proofs.evaluating.evaluate_in.Goals as goal

pub loop-number-init : goal.loop-number-init
loop-number-init g c =
    let flow = c.values_flow_in_order.ensures c.args.workflow.now c.args.graph.now c.requires.well_formed c.requires.graph in
    let on = basis g.T.Tool.apply c.args.tools.now c.args.table.items in (
      c.requires.bases,
      bases_stand on c.args.workflow.now c.args.graph.now.ordered flow c.requires.based _ refl,
      none_at_first on c.args.workflow.now c.args.graph.now.ordered,
      omega arith,
      omega arith,
    )

pub copies_of-requires : goal.copies_of-requires
copies_of-requires g c =
    let flow = c.values_flow_in_order.ensures c.args.workflow.now c.args.graph.now c.requires.well_formed c.requires.graph in
    let here = job_at c.args.workflow.now c.args.graph.now.ordered _ _ _ _ _ _ c.ordered-number-items.ensures c.as_slice-jobs.ensures c.requires.graph.in_range c.loop-number-test.true c.index-jobs-number.is in
    rw c.deref.ensures.value
    (inputs_there (basis g.T.Tool.apply c.args.tools.now c.args.table.items) c.args.workflow.now c.args.graph.now.ordered c.loop-number.number-index _ c.index-jobs-number.result c.requires.well_formed flow here _ c.loop-number.invariant.1)

pub returns-in_err-outputs-clause-answer : goal.returns-in_err-outputs-clause-answer
returns-in_err-outputs-clause-answer g c =
    let flow = c.values_flow_in_order.ensures c.args.workflow.now c.args.graph.now c.requires.well_formed c.requires.graph in
    let here = job_at c.args.workflow.now c.args.graph.now.ordered _ _ _ _ _ _ c.ordered-number-items.ensures c.as_slice-jobs.ensures c.requires.graph.in_range c.loop-number-test.true c.index-jobs-number.is in
    let looked = rw c.deref.ensures.value at c.in_ok-inputs.ensures in
    let made = made_of (basis g.T.Tool.apply c.args.tools.now c.args.table.items) c.args.workflow.now c.args.graph.now.ordered c.loop-number.number-index _ c.index-jobs-number.result c.requires.well_formed flow here _ c.loop-number.invariant.1 _ looked in
    let p = err_from_is_err_and c.from_residual-in_err-outputs.result c.from_residual-in_err-outputs.ensures.1 in
    let named = c.index-tools-number.is ∙ get_or_default c.args.tools.now _ _ [] (omega (arith, here.number.below, c.requires.tools)) in
    let fault = rw named at (rw c.deref-in-loop-number.ensures.value at c.in_err-outputs.ensures.fault) in
    rw (p.1, p.2) (ends_with (basis g.T.Tool.apply c.args.tools.now c.args.table.items) c.args.workflow.now c.args.graph.now.ordered c.loop-number.number-index _ _ _ _ c.index-jobs-number.result here c.loop-number.invariant.2 c.loop-number.invariant.3 _ made c.in_err-outputs.field-0.0 fault)

pub returns-in_err-outputs-clause-reached : goal.returns-in_err-outputs-clause-reached
returns-in_err-outputs-clause-reached g c =
    let here = job_at c.args.workflow.now c.args.graph.now.ordered _ _ _ _ _ _ c.ordered-number-items.ensures c.as_slice-jobs.ensures c.requires.graph.in_range c.loop-number-test.true c.index-jobs-number.is in
    let p = err_from_is_err_and c.from_residual-in_err-outputs.result c.from_residual-in_err-outputs.ensures.1 in
    let fault = rw c.deref-in-loop-number.ensures.value at c.in_err-outputs.ensures.fault in
    λ k is. is_reached (basis g.T.Tool.apply c.args.tools.now c.args.table.items) c.args.workflow.now c.args.graph.now.ordered c.loop-number.number-index _ c.index-jobs-number.result here c.loop-number.invariant.2 _ _ c.in_err-outputs.field-0.0 fault k (let gave = rw (p.1, p.2) at is in cc)

pub place-requires-clause-in_range : goal.place-requires-clause-in_range
place-requires-clause-in_range g c =
    let here = job_at c.args.workflow.now c.args.graph.now.ordered _ _ _ _ _ _ c.ordered-number-items.ensures c.as_slice-jobs.ensures c.requires.graph.in_range c.loop-number-test.true c.index-jobs-number.is in
    all_below _ _ (places_there c.args.workflow.now _ c.index-jobs-number.result c.requires.well_formed here.number _ c.loop-number.invariant.0)

pub loop-number-preserved : goal.loop-number-preserved
loop-number-preserved g c =
    let flow = c.values_flow_in_order.ensures c.args.workflow.now c.args.graph.now c.requires.well_formed c.requires.graph in
    let here = job_at c.args.workflow.now c.args.graph.now.ordered _ _ _ _ _ _ c.ordered-number-items.ensures c.as_slice-jobs.ensures c.requires.graph.in_range c.loop-number-test.true c.index-jobs-number.is in
    let looked = rw c.deref.ensures.value at c.in_ok-inputs.ensures in
    let named = c.index-tools-number.is ∙ get_or_default c.args.tools.now _ _ [] (omega (arith, here.number.below, c.requires.tools)) in
    let ran = rw named at (rw c.deref-in-loop-number.ensures.value at c.in_ok-outputs.ensures.ok) in
    let made = made_of (basis g.T.Tool.apply c.args.tools.now c.args.table.items) c.args.workflow.now c.args.graph.now.ordered c.loop-number.number-index _ c.index-jobs-number.result c.requires.well_formed flow here _ c.loop-number.invariant.1 _ looked in
    let kept = c.loop-number.invariant in
    rw c.place.ensures (
      length_placed (outputs_of c.index-jobs-number.result) c.in_ok-outputs.outputs.items c.loop-number.table.items ∙ kept.0,
      evaluated_more (basis g.T.Tool.apply c.args.tools.now c.args.table.items) c.args.workflow.now c.args.graph.now.ordered c.loop-number.number-index _ c.index-jobs-number.result c.requires.well_formed flow here _ kept.0 kept.1 _ _ looked ran c.in_ok-outputs.ensures.as_many,
      none_before_more (basis g.T.Tool.apply c.args.tools.now c.args.table.items) c.args.workflow.now c.args.graph.now.ordered c.loop-number.number-index _ c.index-jobs-number.result _ here (made ∙ ran) kept.2,
      omega (arith, kept.3, c.in_ok-outputs.ensures.faults),
      omega (arith, kept.4, c.in_ok-outputs.ensures.runs),
    )

pub into_blobs-requires : goal.into_blobs-requires
into_blobs-requires g c =
    let flow = c.values_flow_in_order.ensures c.args.workflow.now c.args.graph.now c.requires.well_formed c.requires.graph in
    let last : c.loop-number.number-index ≡ length c.args.graph.now.ordered = omega (arith, c.loop-number-test.false, ap length c.ordered-number-items.ensures) in
    all_there (basis g.T.Tool.apply c.args.tools.now c.args.table.items) c.args.workflow.now c.args.graph.now.ordered c.loop-number.number-index flow last _ c.loop-number.invariant.0 c.loop-number.invariant.1

pub returns-clause-answer : goal.returns-clause-answer
returns-clause-answer g c =
    let flow = c.values_flow_in_order.ensures c.args.workflow.now c.args.graph.now c.requires.well_formed c.requires.graph in
    let last : c.loop-number.number-index ≡ length c.args.graph.now.ordered = omega (arith, c.loop-number-test.false, ap length c.ordered-number-items.ensures) in
    let kept = c.loop-number.invariant in
    ends_well (basis g.T.Tool.apply c.args.tools.now c.args.table.items) c.args.workflow.now c.args.graph.now.ordered c.loop-number.number-index flow last _ kept.0 kept.1 kept.2 _ c.in_ok-into_blobs.ensures
