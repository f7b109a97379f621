use Rattle.std.proofs.Common.{◌∙◌, sym, ap, arith}
use Rattle.craft.specs.declared.crew.Crew.{Crew}
use Rattle.plan_core.specs.Words.{task_numbers}
use Rattle.lease_book.specs.Book.{state_at}
use Rattle.worker_gate.proofs.CallsLemmas.{calls_both}
use Rattle.worker_gate.proofs.InputsLemmas.{adds_both}
use Rattle.plan_run.specs.code.Moments.{member_moment}
use Rattle.resume_run.proofs.RunsLemmas.{ran_more, used_runs}
use Rattle.resume_run.proofs.TellingLemmas.{part_stays, told_more, used_told}
use Rattle.resume_run.proofs.WorkingLemmas.{failing_in, first_counts, lost_in, none_open_in, unfailing_in, works_stopped, works_then}
use Rattle.resume_run.proofs.working.work_on.Goals as goal

pub returns-then-is_failing-clause-works : goal.returns-then-is_failing-clause-works
returns-then-is_failing-clause-works g c =
    let a = c.args.yard in
    let y = c.redo-yard.result in
    let e = c.redo-yard.ensures in
    let failing = sym (ap (λ b. (state_at b).failing) c.book.ensures) ∙ sym c.is_failing.ensures ∙ c.if-is_failing.true in
    works_stopped a.ordered.value.plan (task_numbers a.ordered.value.tasks.items) a.book.history.events y.book.history.events _ _ c.args.lost.now e.tools e.redoes (lost_in a.book a.ordered.value.plan a.ordered.value.tasks.items c.args.lost.now a.same_plan a.same_order c.requires.lost)
    (failing_in y.book a.ordered.value.plan a.ordered.value.tasks.items (y.same_plan ∙ ap (λ o. o.plan) e.same.ordered) (y.same_order ∙ ap (λ o. o.tasks.items) e.same.ordered) failing)

pub run_alone-requires : goal.run_alone-requires
run_alone-requires g c =
    let a = c.args.yard in
    let y = c.redo-yard.result in
    let e = c.redo-yard.ensures in
    let off = sym (ap (λ b. (state_at b).failing) c.book.ensures) ∙ sym c.is_failing.ensures ∙ c.if-is_failing.false in
    none_open_in y.book a.ordered.value.plan a.ordered.value.tasks.items (y.same_plan ∙ ap (λ o. o.plan) e.same.ordered) (y.same_order ∙ ap (λ o. o.tasks.items) e.same.ordered) off e.redoes.over

pub returns-clause-works : goal.returns-clause-works
returns-clause-works g c =
    let a = c.args.yard in
    let y = c.redo-yard.result in
    let z = c.run_alone.result in
    let e = c.redo-yard.ensures in
    let alone = rw e.same.ordered at c.run_alone.ensures.works in
    let many = e.crew in
    let off = sym (ap (λ b. (state_at b).failing) c.book.ensures) ∙ sym c.is_failing.ensures ∙ c.if-is_failing.false in
    works_then a.ordered.value.plan (task_numbers a.ordered.value.tasks.items) a.book.history.events y.book.history.events z.book.history.events _ _ _ _ _ c.args.lost.now e.tools e.redoes (lost_in a.book a.ordered.value.plan a.ordered.value.tasks.items c.args.lost.now a.same_plan a.same_order c.requires.lost)
    (unfailing_in y.book a.ordered.value.plan a.ordered.value.tasks.items (y.same_plan ∙ ap (λ o. o.plan) e.same.ordered) (y.same_order ∙ ap (λ o. o.tasks.items) e.same.ordered) off) alone
    (first_counts (member_moment g.T.Tool g.G.Gate) c.redo-yard.new.crew.items c.index_mut.result.now c.run_alone.new.crew alone.added (omega (arith, many, c.requires.members)) c.index_mut.ensures.value alone.by_zero c.run_alone.ensures.tool alone.counted)

pub returns-clause-calls : goal.returns-clause-calls
returns-clause-calls g c =
    let a = c.args.yard in
    let y = c.redo-yard.result in
    let e = c.redo-yard.ensures in
    calls_both a.ordered.value.plan a.book.history.events y.book.history.events c.run_alone.result.book.history.events (g.H.Host.counts a.host) (g.H.Host.counts y.host) (g.H.Host.counts c.run_alone.result.host) e.calls (rw e.same.ordered at c.run_alone.ensures.calls) c.run_alone.ensures.same.later

pub returns-clause-inputs : goal.returns-clause-inputs
returns-clause-inputs g c =
    let a = c.args.yard in
    let y = c.redo-yard.result in
    let e = c.redo-yard.ensures in
    adds_both g.T.Tool.apply a.ordered.value.plan a.book.history.events y.book.history.events c.run_alone.result.book.history.events e.inputs (rw e.same.ordered at c.run_alone.ensures.inputs)

pub returns-clause-asked : goal.returns-clause-asked
returns-clause-asked g c =
    part_stays (λ (m : Crew g.row.T.Denot g.row.G.Denot). g.G.Gate.asked m.gate) c.redo-yard.new.crew.items 0 c.index_mut.result.now c.run_alone.new.crew c.index_mut.ensures.value c.run_alone.ensures.asked
    ∙ c.redo-yard.ensures.asked

pub returns-clause-told : goal.returns-clause-told
returns-clause-told g c =
    let a = c.args.yard in
    let y = c.redo-yard.result in
    let z = c.run_alone.result in
    let e = c.redo-yard.ensures in
    let works = c.run_alone.ensures.works in
    let many = e.crew in
    let crew = c.redo-yard.new.crew.items in
    told_more a.book.history.events y.book.history.events z.book.history.events _ _ _ e.told
    (used_told (member_moment g.T.Tool g.G.Gate) crew 0 c.index_mut.result.now c.run_alone.new.crew y.book.history.events z.book.history.events works.added (omega (arith, many, c.requires.members)) c.index_mut.ensures.value works.is works.by_zero c.run_alone.ensures.told)

pub returns-clause-runs : goal.returns-clause-runs
returns-clause-runs g c =
    let a = c.args.yard in
    let y = c.redo-yard.result in
    let z = c.run_alone.result in
    let e = c.redo-yard.ensures in
    let works = c.run_alone.ensures.works in
    let many = e.crew in
    let crew = c.redo-yard.new.crew.items in
    ran_more a.ordered.value.plan a.book.history.events y.book.history.events z.book.history.events _ _ _ e.runs
    (used_runs (member_moment g.T.Tool g.G.Gate) a.ordered.value.plan crew 0 c.index_mut.result.now c.run_alone.new.crew y.book.history.events z.book.history.events works.added (omega (arith, many, c.requires.members)) c.index_mut.ensures.value works.is (rw e.same.ordered at c.run_alone.ensures.runs))
