use Rattle.std.proofs.Common.{◌≡◌, ◌∙◌, ℕ, List, refl, sym, ap, subst, length}
use Rattle.std.specs.Prelude.{Option, Ok, Err, Vec}
use Rattle.std.specs.declared.alloc.Global.{Global}
use Rattle.outside.specs.code.Counts.{Rose}
use Rattle.values.specs.declared.numbers.JobId.{JobId}
use Rattle.dependency_graph.specs.code.Value.{AllBased}
use Rattle.dependency_graph.specs.Value.{Basis, basis}
use Rattle.workflow_eval.specs.Evaluating.{Evaluates, IsReached}
use Rattle.workflow_eval.specs.declared.fault.EvalFault.TheVariants.{ToolFailed}
use Rattle.evaluation.specs.Moments.{meeting, subject}
use Rattle.evaluation.specs.declared.evaluating.Prepared.{Prepared}
use Rattle.evaluation.proofs.PreparedLemmas.{all_based, are_bases, is_ready}
use Rattle.evaluation.proofs.EvaluatingLemmas.{based, basis_is, fault_ends, refused_ends, unread_ends, values_are}
use Rattle.evaluation.proofs.evaluating.values_of.Goals as goal

pub returns-in-Err-clause-answer : goal.returns-in-Err-clause-answer
returns-in-Err-clause-answer g c =
    let m = meeting g.H.Host g.T.Tool c.args.host.now c.args.tool.now c.args.host.now c.args.tool.now in
    let s = subject c.args.workflow.now c.args.graph.now.ordered c.args.replicas.now.entries c.args.request.now.tools in
    refused_ends Prepared m s c.in-Err.fault c.in-Err.ensures refl

pub returns-in-Err-read_bases-clause-answer : goal.returns-in-Err-read_bases-clause-answer
returns-in-Err-read_bases-clause-answer g c =
    let m = meeting g.H.Host g.T.Tool c.args.host.now c.args.tool.now c.read_bases.new.host c.args.tool.now in
    let s = subject c.args.workflow.now c.args.graph.now.ordered c.args.replicas.now.entries c.args.request.now.tools in
    unread_ends (Vec (Option (List ℕ)) Global) m s c.in-Ok.prepared c.in-Err-read_bases.fault (sym c.in-Ok.ensures) (rw c.as_slice.ensures at c.in-Err-read_bases.ensures.answer)

pub evaluate_in-requires-clause-tools : goal.evaluate_in-requires-clause-tools
evaluate_in-requires-clause-tools g c =
    let s = subject c.args.workflow.now c.args.graph.now.ordered c.args.replicas.now.entries c.args.request.now.tools in
    ap length c.as_slice-tools.ensures ∙ (is_ready g.T.Tool.known s c.in-Ok.prepared (sym c.in-Ok.ensures)).tools

pub evaluate_in-requires-clause-bases : goal.evaluate_in-requires-clause-bases
evaluate_in-requires-clause-bases g c =
    let s = subject c.args.workflow.now c.args.graph.now.ordered c.args.replicas.now.entries c.args.request.now.tools in
    let read = rw c.as_slice.ensures at c.in-Ok-read_bases.ensures.answer in
    let are = are_bases (g.H.Host.told c.args.host.now) c.in-Ok.prepared.sources (g.H.Host.counts c.args.host.now) (g.H.Host.counts c.read_bases.new.host) _ read c.in-Ok-read_bases.bases.items refl in
    are.many ∙ (is_ready g.T.Tool.known s c.in-Ok.prepared (sym c.in-Ok.ensures)).sources.many

pub evaluate_in-requires-clause-based : goal.evaluate_in-requires-clause-based
evaluate_in-requires-clause-based g c =
    let s = subject c.args.workflow.now c.args.graph.now.ordered c.args.replicas.now.entries c.args.request.now.tools in
    let read = rw c.as_slice.ensures at c.in-Ok-read_bases.ensures.answer in
    let are = are_bases (g.H.Host.told c.args.host.now) c.in-Ok.prepared.sources (g.H.Host.counts c.args.host.now) (g.H.Host.counts c.read_bases.new.host) _ read c.in-Ok-read_bases.bases.items refl in
    let on_is = basis_is g.T.Tool.apply _ _ c.in-Ok-read_bases.bases.items _ c.as_slice-tools.ensures refl in
    subst (λ (on : Basis). AllBased on c.args.workflow.now) (sym on_is)
    (all_based g.T.Tool.known s c.in-Ok.prepared g.T.Tool.apply c.in-Ok.prepared.tools c.in-Ok-read_bases.bases.items (is_ready g.T.Tool.known s c.in-Ok.prepared (sym c.in-Ok.ensures)) are)

pub returns-in-Ok-evaluate_in-clause-answer : goal.returns-in-Ok-evaluate_in-clause-answer
returns-in-Ok-evaluate_in-clause-answer g c =
    let w = c.args.workflow.now in
    let order = c.args.graph.now.ordered in
    let m = meeting g.H.Host g.T.Tool c.args.host.now c.args.tool.now c.read_bases.new.host c.evaluate_in.new.tool in
    let s = subject w order c.args.replicas.now.entries c.args.request.now.tools in
    let on = basis g.T.Tool.apply c.in-Ok.prepared.tools c.in-Ok-read_bases.bases.items in
    let read = rw c.as_slice.ensures at c.in-Ok-read_bases.ensures.answer in
    let has = based m s c.in-Ok.prepared c.in-Ok-read_bases.bases.items (sym c.in-Ok.ensures) read in
    let on_is = basis_is g.T.Tool.apply _ _ c.in-Ok-read_bases.bases.items _ c.as_slice-tools.ensures refl in
    let rose = Rose (g.T.Tool.faults c.args.tool.now) (g.T.Tool.faults c.evaluate_in.new.tool) in
    let values = c.in-Ok-evaluate_in.values in
    let evaluated = subst (λ (b : Basis). Evaluates b w order rose (Ok values)) on_is c.in-Ok-evaluate_in.ensures.answer in
    (on, has, evaluated.0, evaluated.1)

pub returns-in-Ok-evaluate_in-clause-requested : goal.returns-in-Ok-evaluate_in-clause-requested
returns-in-Ok-evaluate_in-clause-requested g c =
    let w = c.args.workflow.now in
    let order = c.args.graph.now.ordered in
    let m = meeting g.H.Host g.T.Tool c.args.host.now c.args.tool.now c.read_bases.new.host c.evaluate_in.new.tool in
    let s = subject w order c.args.replicas.now.entries c.args.request.now.tools in
    let on = basis g.T.Tool.apply c.in-Ok.prepared.tools c.in-Ok-read_bases.bases.items in
    let read = rw c.as_slice.ensures at c.in-Ok-read_bases.ensures.answer in
    let has = based m s c.in-Ok.prepared c.in-Ok-read_bases.bases.items (sym c.in-Ok.ensures) read in
    let on_is = basis_is g.T.Tool.apply _ _ c.in-Ok-read_bases.bases.items _ c.as_slice-tools.ensures refl in
    let rose = Rose (g.T.Tool.faults c.args.tool.now) (g.T.Tool.faults c.evaluate_in.new.tool) in
    let values = c.in-Ok-evaluate_in.values in
    let evaluated = subst (λ (b : Basis). Evaluates b w order rose (Ok values)) on_is c.in-Ok-evaluate_in.ensures.answer in
    values_are m s on values.items has evaluated.0 evaluated.1

pub returns-in-Err-evaluate_in-clause-answer : goal.returns-in-Err-evaluate_in-clause-answer
returns-in-Err-evaluate_in-clause-answer g c =
    let w = c.args.workflow.now in
    let order = c.args.graph.now.ordered in
    let m = meeting g.H.Host g.T.Tool c.args.host.now c.args.tool.now c.read_bases.new.host c.evaluate_in.new.tool in
    let s = subject w order c.args.replicas.now.entries c.args.request.now.tools in
    let on = basis g.T.Tool.apply c.in-Ok.prepared.tools c.in-Ok-read_bases.bases.items in
    let read = rw c.as_slice.ensures at c.in-Ok-read_bases.ensures.answer in
    let has = based m s c.in-Ok.prepared c.in-Ok-read_bases.bases.items (sym c.in-Ok.ensures) read in
    let on_is = basis_is g.T.Tool.apply _ _ c.in-Ok-read_bases.bases.items _ c.as_slice-tools.ensures refl in
    let rose = Rose (g.T.Tool.faults c.args.tool.now) (g.T.Tool.faults c.evaluate_in.new.tool) in
    let fault = c.in-Err-evaluate_in.fault in
    let evaluated = subst (λ (b : Basis). Evaluates b w order rose (Err fault)) on_is c.in-Err-evaluate_in.ensures.answer in
    let reached : (j : JobId) → fault ≡ ToolFailed j → IsReached on w order j =
    λ j is. subst (λ (b : Basis). IsReached b w order j) on_is (c.in-Err-evaluate_in.ensures.reached j (ap Err is)) in
    fault_ends m s on fault c.of_eval_fault.result has evaluated reached c.of_eval_fault.ensures
