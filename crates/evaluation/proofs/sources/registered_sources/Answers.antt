use Rattle.std.proofs.Common.{◌≡◌, ◌∙◌, ◌<◌, ℕ, List, ap, arith, get_or, length}
use Rattle.std.specs.Prelude.{Err, Option, Vec}
use Rattle.std.specs.declared.alloc.Global.{Global}
use Rattle.evaluation.specs.Sources.{source_if_base, sources_of}
use Rattle.evaluation.specs.declared.sources.Source.{Source}
use Rattle.evaluation.proofs.RestLemmas.{unless_then}
use Rattle.evaluation.proofs.StepLemmas.{sources_end, sources_more}
use Rattle.evaluation.proofs.sources.registered_sources.Goals as goal

pub returns-in-Err : goal.returns-in-Err
unfolding sources_of
returns-in-Err c =
    let low : c.loop-number.number < length c.args.workflow.now.files = omega (arith, ap length c.as_slice-lfn-items.ensures) in
    let at = c.lfn-item.is ∙ ap (λ (l : List (List ℕ)). get_or l c.loop-number.number c.lfn-item.result) c.as_slice-lfn-items.ensures in
    unless_then (Option Source) (Vec (Option Source) Global) c.in-Err.fault
    (Err c.in-Err.fault ≡ source_if_base c.args.workflow.now c.args.replicas.now c.loop-number.number c.lfn-item.result)
    (Err c.in-Err.fault ≡ sources_of c.args.workflow.now c.args.replicas.now)
    c.in-Err.ensures
    (sources_end c.args.workflow.now c.args.replicas.now c.loop-number.number c.lfn-item.result c.loop-number.sources.items c.in-Err.fault low at c.loop-number.invariant)

pub loop-number-preserved : goal.loop-number-preserved
loop-number-preserved c =
    let low : c.loop-number.number < length c.args.workflow.now.files = omega (arith, ap length c.as_slice-lfn-items.ensures) in
    let at = c.lfn-item.is ∙ ap (λ (l : List (List ℕ)). get_or l c.loop-number.number c.lfn-item.result) c.as_slice-lfn-items.ensures in
    sources_more c.args.workflow.now c.args.replicas.now c.loop-number.number c.lfn-item.result c.loop-number.sources.items c.push.new.self.items c.in-Ok.source low at c.loop-number.invariant c.in-Ok.ensures c.in_ok-push-in-Ok.ensures.items
