use Rattle.std.proofs.Common.{◌∙◌, refl, sym, ap, subst}
use Rattle.plan_core.specs.Words.{task_numbers}
use Rattle.lease_book.specs.Book.{state_at}
use Rattle.site_yard.proofs.YardLemmas.{same_yard, still_yard}
use Rattle.worker_gate.specs.code.Alone.{IsOver}
use Rattle.worker_gate.specs.code.Calls.{AddsCalls}
use Rattle.worker_gate.specs.code.Inputs.{AddsOfInputs}
use Rattle.worker_gate.specs.code.Runs.{RunsWithin}
use Rattle.worker_gate.specs.code.Stepping.{WorksOn}
use Rattle.worker_gate.proofs.CallsLemmas.{calls_both, calls_none}
use Rattle.worker_gate.proofs.InputsLemmas.{adds_none, adds_both}
use Rattle.worker_gate.proofs.RunLemmas.{both_counts, room_falls_on, same_count, works_alone, works_first, works_then}
use Rattle.worker_gate.proofs.RunsLemmas.{runs_both, runs_same}
use Rattle.worker_gate.proofs.TellingLemmas.{told_both, told_nothing}
use Rattle.worker_gate.proofs.WorkLemmas.{one_run_of}
use Rattle.worker_gate.proofs.alone.run_alone.Goals as goal

pub loop-alloc-init : goal.loop-alloc-init
loop-alloc-init g c =
    let x = g.T.Tool.faults c.args.crew.now.tool in
    (works_first c.args.yard.book x c.requires, same_count x, still_yard c.args.yard, adds_none g.T.Tool.apply c.args.yard.ordered.value.plan c.args.yard.book.history.events, refl, calls_none c.args.yard.ordered.value.plan c.args.yard.book.history.events (g.H.Host.counts c.args.yard.host) (g.H.Host.counts c.args.yard.host) refl, told_nothing 0 c.args.yard.book.history.events c.args.yard.book.history.events (g.G.Gate.told c.args.crew.now.gate) (g.G.Gate.told c.args.crew.now.gate) refl refl, runs_same c.args.yard.ordered.value.plan 0 c.args.yard.book.history.events c.args.yard.book.history.events (g.T.Tool.runs c.args.crew.now.tool) refl)

pub loop-alloc-smaller : goal.loop-alloc-smaller
loop-alloc-smaller g c =
    let b = c.loop-alloc.yard in
    let d = c.step.new.yard in
    let y = g.T.Tool.faults c.loop-alloc.crew.tool in
    let z = g.T.Tool.faults c.step.new.crew.tool in
    let here = one_run_of b.book d.book b.ordered.value d.ordered.value b.same_plan b.same_order d.same_plan d.same_order c.loop-alloc-test.ensures.same.ordered in
    let works = subst (λ p. WorksOn p (state_at b.book) b.book.history.events d.book.history.events (state_at d.book) y z) (sym b.same_plan) c.loop-alloc-test.ensures.steps.0 in
    room_falls_on b.book d.book y z (c.lease_laws.ensures b.book.plan b.book.proper) here works c.loop-alloc-test.ensures.steps.1

pub loop-alloc-preserved : goal.loop-alloc-preserved
loop-alloc-preserved g c =
    let a = c.args.yard in
    let b = c.loop-alloc.yard in
    let d = c.step.new.yard in
    let x = g.T.Tool.faults c.args.crew.now.tool in
    let y = g.T.Tool.faults c.loop-alloc.crew.tool in
    let z = g.T.Tool.faults c.step.new.crew.tool in
    let i = c.loop-alloc.invariant in
    let e = c.loop-alloc-test.ensures in
    let before = one_run_of a.book b.book a.ordered.value b.ordered.value a.same_plan a.same_order b.same_plan b.same_order i.2.ordered in
    let works = subst (λ p. WorksOn p (state_at b.book) b.book.history.events d.book.history.events (state_at d.book) y z) (sym b.same_plan) e.steps.0 in (
      works_then a.book b.book d.book x y z before e.tool i.0 works,
      both_counts x y z i.1 e.tool,
      same_yard a b d i.2 e.same,
      adds_both g.T.Tool.apply a.ordered.value.plan a.book.history.events b.book.history.events d.book.history.events i.3 (subst (λ p. AddsOfInputs g.T.Tool.apply p b.book.history.events d.book.history.events) (ap (λ o. o.plan) i.2.ordered) e.inputs),
      e.asked ∙ i.4,
      calls_both a.ordered.value.plan a.book.history.events b.book.history.events d.book.history.events (g.H.Host.counts a.host) (g.H.Host.counts b.host) (g.H.Host.counts d.host) i.5 (subst (λ p. AddsCalls p b.book.history.events d.book.history.events (g.H.Host.counts b.host) (g.H.Host.counts d.host)) (ap (λ o. o.plan) i.2.ordered) e.calls) e.same.later,
      told_both 0 a.book.history.events b.book.history.events d.book.history.events (g.G.Gate.told c.args.crew.now.gate) (g.G.Gate.told c.loop-alloc.crew.gate) (g.G.Gate.told c.step.new.crew.gate) i.6 e.told,
      runs_both a.ordered.value.plan 0 a.book.history.events b.book.history.events d.book.history.events (g.T.Tool.runs c.args.crew.now.tool) (g.T.Tool.runs c.loop-alloc.crew.tool) (g.T.Tool.runs c.step.new.crew.tool) i.7 (subst (λ p. RunsWithin p 0 b.book.history.events d.book.history.events (g.T.Tool.runs c.loop-alloc.crew.tool) (g.T.Tool.runs c.step.new.crew.tool)) (ap (λ o. o.plan) i.2.ordered) e.runs),
    )

pub returns-clause-works : goal.returns-clause-works
returns-clause-works g c =
    let a = c.args.yard in
    let b = c.loop-alloc.yard in
    let d = c.step.new.yard in
    let x = g.T.Tool.faults c.args.crew.now.tool in
    let y = g.T.Tool.faults c.loop-alloc.crew.tool in
    let i = c.loop-alloc.invariant in
    let e = c.loop-alloc-test.ensures in
    let before = one_run_of a.book b.book a.ordered.value b.ordered.value a.same_plan a.same_order b.same_plan b.same_order i.2.ordered in
    rw (e.steps.2)
    (works_alone a.book b.book d.book a.ordered.value.plan (task_numbers a.ordered.value.tasks.items) x y (c.lease_laws.ensures a.book.plan a.book.proper) a.same_plan (ap task_numbers a.same_order) before c.requires i.0 e.steps.0
    (subst (λ p. IsOver p (state_at b.book)) (sym b.same_plan) e.steps.1))

pub returns-clause-inputs : goal.returns-clause-inputs
returns-clause-inputs g c =
    let a = c.args.yard in
    let b = c.loop-alloc.yard in
    let i = c.loop-alloc.invariant in
    let e = c.loop-alloc-test.ensures in
    rw (e.steps.0) i.3

pub returns-clause-calls : goal.returns-clause-calls
returns-clause-calls g c =
    let a = c.args.yard in
    let b = c.loop-alloc.yard in
    let d = c.step.new.yard in
    let i = c.loop-alloc.invariant in
    let e = c.loop-alloc-test.ensures in
    calls_both a.ordered.value.plan a.book.history.events b.book.history.events d.book.history.events (g.H.Host.counts a.host) (g.H.Host.counts b.host) (g.H.Host.counts d.host) i.5 (subst (λ p. AddsCalls p b.book.history.events d.book.history.events (g.H.Host.counts b.host) (g.H.Host.counts d.host)) (ap (λ o. o.plan) i.2.ordered) e.calls) e.same.later

pub returns-clause-same : goal.returns-clause-same
returns-clause-same g c = same_yard c.args.yard c.loop-alloc.yard c.step.new.yard c.loop-alloc.invariant.2 c.loop-alloc-test.ensures.same

pub returns-clause-asked : goal.returns-clause-asked
returns-clause-asked g c = c.loop-alloc-test.ensures.asked ∙ c.loop-alloc.invariant.4

pub returns-clause-told : goal.returns-clause-told
returns-clause-told g c = told_both 0 c.args.yard.book.history.events c.loop-alloc.yard.book.history.events c.step.new.yard.book.history.events (g.G.Gate.told c.args.crew.now.gate) (g.G.Gate.told c.loop-alloc.crew.gate) (g.G.Gate.told c.step.new.crew.gate) c.loop-alloc.invariant.6 c.loop-alloc-test.ensures.told

pub returns-clause-runs : goal.returns-clause-runs
returns-clause-runs g c =
    let p = c.args.yard.ordered.value.plan in
    let here = c.loop-alloc.yard.book.history.events in
    let next = c.step.new.yard.book.history.events in
    let y = g.T.Tool.runs c.loop-alloc.crew.tool in
    let z = g.T.Tool.runs c.step.new.crew.tool in
    runs_both p 0 c.args.yard.book.history.events here next (g.T.Tool.runs c.args.crew.now.tool) y z c.loop-alloc.invariant.7 (subst (λ q. RunsWithin q 0 here next y z) (ap (λ o. o.plan) c.loop-alloc.invariant.2.ordered) c.loop-alloc-test.ensures.runs)
