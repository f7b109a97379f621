use Rattle.std.proofs.Common.{◌<◌, ◌∙◌, ap, sym, subst, length}
use Rattle.lease_book.specs.declared.book.Book.{Book}
use Rattle.lease_book.specs.Book.{state_at}
use Rattle.lease_rules.specs.code.Law.{IsSafeState}
use Rattle.site_yard.specs.code.Yard.{Leases}
use Rattle.site_yard.specs.declared.leased.Leased.TheVariants as leased
use Rattle.worker_gate.specs.code.Stepping.{WorksOn}
use Rattle.worker_gate.proofs.TellingLemmas.{told_both}
use Rattle.worker_gate.proofs.WorkLemmas.{again_works, failed_works, granted_is_open, granted_works, one_run_of, swept_works}
use Rattle.worker_gate.proofs.CallsLemmas.{calls_no_entry, fails_calls, grants_calls, sweeps_calls, tries_again_calls}
use Rattle.worker_gate.proofs.InputsLemmas.{adds_no_entry, fails_so, grants_so, sweeps_so, tries_again_so}
use Rattle.worker_gate.specs.code.Runs.{RunsWithin}
use Rattle.worker_gate.proofs.RunsLemmas.{runs_both, runs_still}
use Rattle.worker_gate.proofs.stepping.step.Goals as goal

pub do_task-requires : goal.do_task-requires
do_task-requires g c =
    let a = c.args.yard.now in
    let b = c.lease_told.new.yard in
    let safe = subst (λ (x : Book). IsSafeState x.plan (state_at x)) c.book.ensures c.record-record.ensures.safe in
    let same = one_run_of a.book b.book a.ordered.value b.ordered.value a.same_plan a.same_order b.same_plan b.same_order c.lease_told.ensures.same.ordered in
    granted_is_open a.book b.book c.in-Granted.task (g.H.Host.told a.host) (g.H.Host.counts a.host) (g.H.Host.counts b.host) same safe c.requires
    (subst (λ p. Leases p (state_at a.book) 0 a.book.history.events b.book.history.events (g.H.Host.told a.host) (g.H.Host.counts a.host) (g.H.Host.counts b.host) (leased.Granted c.in-Granted.task)) (sym a.same_plan) c.in-Granted.ensures.leased)

pub returns-in-Granted-clause-steps : goal.returns-in-Granted-clause-steps
returns-in-Granted-clause-steps g c =
    let a = c.args.yard.now in
    let b = c.lease_told.new.yard in
    let safe = subst (λ (x : Book). IsSafeState x.plan (state_at x)) c.book.ensures c.record-record.ensures.safe in
    let laws = c.lease_laws.ensures a.book.plan a.book.proper in
    let d = c.do_task.new.yard in
    let same = one_run_of a.book b.book a.ordered.value b.ordered.value a.same_plan a.same_order b.same_plan b.same_order c.lease_told.ensures.same.ordered in
    let then_ = one_run_of b.book d.book b.ordered.value d.ordered.value b.same_plan b.same_order d.same_plan d.same_order c.do_task.ensures.same.ordered in
    subst (λ p. WorksOn p (state_at a.book) a.book.history.events d.book.history.events (state_at d.book) (g.T.Tool.faults c.args.crew.now.tool) (g.T.Tool.faults c.do_task.new.crew.tool) × (length a.book.history.events < length d.book.history.events)) a.same_plan
    (granted_works a.book b.book d.book c.in-Granted.task (g.T.Tool.faults c.args.crew.now.tool) (g.T.Tool.faults c.do_task.new.crew.tool) (g.H.Host.told a.host) (g.H.Host.counts a.host) (g.H.Host.counts b.host) laws same then_ safe c.requires
    (subst (λ p. Leases p (state_at a.book) 0 a.book.history.events b.book.history.events (g.H.Host.told a.host) (g.H.Host.counts a.host) (g.H.Host.counts b.host) (leased.Granted c.in-Granted.task)) (sym a.same_plan) c.in-Granted.ensures.leased)
    c.do_task.ensures.does)

pub returns-in-Swept-clause-steps : goal.returns-in-Swept-clause-steps
returns-in-Swept-clause-steps g c =
    let a = c.args.yard.now in
    let b = c.lease_told.new.yard in
    let safe = subst (λ (x : Book). IsSafeState x.plan (state_at x)) c.book.ensures c.record-record.ensures.safe in
    let laws = c.lease_laws.ensures a.book.plan a.book.proper in
    let x = g.T.Tool.faults c.args.crew.now.tool in
    let same = one_run_of a.book b.book a.ordered.value b.ordered.value a.same_plan a.same_order b.same_plan b.same_order c.lease_told.ensures.same.ordered in
    subst (λ p. WorksOn p (state_at a.book) a.book.history.events b.book.history.events (state_at b.book) x x × (length a.book.history.events < length b.book.history.events)) a.same_plan
    (swept_works a.book b.book c.in-Swept.field-0 x (g.H.Host.told a.host) (g.H.Host.counts a.host) (g.H.Host.counts b.host) laws same safe c.requires
    (subst (λ p. Leases p (state_at a.book) 0 a.book.history.events b.book.history.events (g.H.Host.told a.host) (g.H.Host.counts a.host) (g.H.Host.counts b.host) (leased.Swept c.in-Swept.field-0)) (sym a.same_plan) c.in-Swept.ensures.leased))

pub returns-in-Failed-clause-steps : goal.returns-in-Failed-clause-steps
returns-in-Failed-clause-steps g c =
    let a = c.args.yard.now in
    let b = c.lease_told.new.yard in
    let x = g.T.Tool.faults c.args.crew.now.tool in
    let same = one_run_of a.book b.book a.ordered.value b.ordered.value a.same_plan a.same_order b.same_plan b.same_order c.lease_told.ensures.same.ordered in
    subst (λ p. WorksOn p (state_at a.book) a.book.history.events b.book.history.events (state_at b.book) x x × (length a.book.history.events < length b.book.history.events)) a.same_plan
    (failed_works a.book b.book c.in-Failed.field-0 x (g.H.Host.told a.host) (g.H.Host.counts a.host) (g.H.Host.counts b.host) same c.requires
    (subst (λ p. Leases p (state_at a.book) 0 a.book.history.events b.book.history.events (g.H.Host.told a.host) (g.H.Host.counts a.host) (g.H.Host.counts b.host) (leased.Failed c.in-Failed.field-0)) (sym a.same_plan) c.in-Failed.ensures.leased))

pub returns-in-Again-clause-steps : goal.returns-in-Again-clause-steps
returns-in-Again-clause-steps g c =
    let a = c.args.yard.now in
    let b = c.lease_told.new.yard in
    let safe = subst (λ (x : Book). IsSafeState x.plan (state_at x)) c.book.ensures c.record-record.ensures.safe in
    let laws = c.lease_laws.ensures a.book.plan a.book.proper in
    let x = g.T.Tool.faults c.args.crew.now.tool in
    let same = one_run_of a.book b.book a.ordered.value b.ordered.value a.same_plan a.same_order b.same_plan b.same_order c.lease_told.ensures.same.ordered in
    subst (λ p. WorksOn p (state_at a.book) a.book.history.events b.book.history.events (state_at b.book) x x × (length a.book.history.events < length b.book.history.events)) a.same_plan
    (again_works a.book b.book c.in-Again.field-0 x (g.H.Host.told a.host) (g.H.Host.counts a.host) (g.H.Host.counts b.host) laws same safe c.requires
    (subst (λ p. Leases p (state_at a.book) 0 a.book.history.events b.book.history.events (g.H.Host.told a.host) (g.H.Host.counts a.host) (g.H.Host.counts b.host) (leased.Again c.in-Again.field-0)) (sym a.same_plan) c.in-Again.ensures.leased))

pub returns-in-Granted-clause-inputs : goal.returns-in-Granted-clause-inputs
returns-in-Granted-clause-inputs g c =
    let a = c.args.yard.now in
    let b = c.lease_told.new.yard in
    grants_so g.T.Tool.apply a.ordered.value.plan b.ordered.value.plan (state_at a.book) 0 c.in-Granted.task a.book.history.events b.book.history.events _ (g.H.Host.told a.host) (g.H.Host.counts a.host) (g.H.Host.counts b.host) (ap (λ o. o.plan) c.lease_told.ensures.same.ordered) c.in-Granted.ensures.leased c.do_task.ensures.inputs

pub returns-in-Swept-clause-inputs : goal.returns-in-Swept-clause-inputs
returns-in-Swept-clause-inputs g c =
    let a = c.args.yard.now in
    let b = c.lease_told.new.yard in
    sweeps_so g.T.Tool.apply a.ordered.value.plan (state_at a.book) 0 c.in-Swept.field-0 a.book.history.events b.book.history.events (g.H.Host.told a.host) (g.H.Host.counts a.host) (g.H.Host.counts b.host) c.in-Swept.ensures.leased

pub returns-in-Failed-clause-inputs : goal.returns-in-Failed-clause-inputs
returns-in-Failed-clause-inputs g c =
    let a = c.args.yard.now in
    let b = c.lease_told.new.yard in
    fails_so g.T.Tool.apply a.ordered.value.plan (state_at a.book) 0 c.in-Failed.field-0 a.book.history.events b.book.history.events (g.H.Host.told a.host) (g.H.Host.counts a.host) (g.H.Host.counts b.host) c.in-Failed.ensures.leased

pub returns-in-Again-clause-inputs : goal.returns-in-Again-clause-inputs
returns-in-Again-clause-inputs g c =
    let a = c.args.yard.now in
    let b = c.lease_told.new.yard in
    tries_again_so g.T.Tool.apply a.ordered.value.plan (state_at a.book) 0 c.in-Again.field-0 a.book.history.events b.book.history.events (g.H.Host.told a.host) (g.H.Host.counts a.host) (g.H.Host.counts b.host) c.in-Again.ensures.leased

pub returns-in-Done-clause-inputs : goal.returns-in-Done-clause-inputs
returns-in-Done-clause-inputs g c =
    let a = c.args.yard.now in
    adds_no_entry g.T.Tool.apply a.ordered.value.plan a.book.history.events _ c.in-Done.ensures.leased.1

pub returns-in-Stopped-clause-inputs : goal.returns-in-Stopped-clause-inputs
returns-in-Stopped-clause-inputs g c =
    let a = c.args.yard.now in
    adds_no_entry g.T.Tool.apply a.ordered.value.plan a.book.history.events _ c.in-Stopped.ensures.leased.1

pub returns-in-Granted-clause-calls : goal.returns-in-Granted-clause-calls
returns-in-Granted-clause-calls g c =
    let a = c.args.yard.now in
    let b = c.lease_told.new.yard in
    grants_calls a.ordered.value.plan b.ordered.value.plan (state_at a.book) 0 c.in-Granted.task a.book.history.events b.book.history.events _ (g.H.Host.told a.host) (g.H.Host.counts a.host) (g.H.Host.counts b.host) _ (ap (λ o. o.plan) c.lease_told.ensures.same.ordered) c.in-Granted.ensures.leased c.do_task.ensures.calls c.do_task.ensures.same.later

pub returns-in-Swept-clause-calls : goal.returns-in-Swept-clause-calls
returns-in-Swept-clause-calls g c =
    let a = c.args.yard.now in
    let b = c.lease_told.new.yard in
    sweeps_calls a.ordered.value.plan (state_at a.book) 0 c.in-Swept.field-0 a.book.history.events b.book.history.events (g.H.Host.told a.host) (g.H.Host.counts a.host) (g.H.Host.counts b.host) c.in-Swept.ensures.leased

pub returns-in-Failed-clause-calls : goal.returns-in-Failed-clause-calls
returns-in-Failed-clause-calls g c =
    let a = c.args.yard.now in
    let b = c.lease_told.new.yard in
    fails_calls a.ordered.value.plan (state_at a.book) 0 c.in-Failed.field-0 a.book.history.events b.book.history.events (g.H.Host.told a.host) (g.H.Host.counts a.host) (g.H.Host.counts b.host) c.in-Failed.ensures.leased

pub returns-in-Again-clause-calls : goal.returns-in-Again-clause-calls
returns-in-Again-clause-calls g c =
    let a = c.args.yard.now in
    let b = c.lease_told.new.yard in
    tries_again_calls a.ordered.value.plan (state_at a.book) 0 c.in-Again.field-0 a.book.history.events b.book.history.events (g.H.Host.told a.host) (g.H.Host.counts a.host) (g.H.Host.counts b.host) c.in-Again.ensures.leased

pub returns-in-Done-clause-calls : goal.returns-in-Done-clause-calls
returns-in-Done-clause-calls g c =
    let a = c.args.yard.now in
    calls_no_entry a.ordered.value.plan a.book.history.events _ _ _ c.in-Done.ensures.leased.1 c.in-Done.ensures.leased.2

pub returns-in-Stopped-clause-calls : goal.returns-in-Stopped-clause-calls
returns-in-Stopped-clause-calls g c =
    let a = c.args.yard.now in
    calls_no_entry a.ordered.value.plan a.book.history.events _ _ _ c.in-Stopped.ensures.leased.1 c.in-Stopped.ensures.leased.2

pub returns-in-Granted-clause-asked : goal.returns-in-Granted-clause-asked
returns-in-Granted-clause-asked g c = c.do_task.ensures.asked ∙ c.lease_told.ensures.asked

pub returns-in-Granted-clause-told : goal.returns-in-Granted-clause-told
returns-in-Granted-clause-told g c = told_both 0 c.args.yard.now.book.history.events c.lease_told.new.yard.book.history.events c.do_task.new.yard.book.history.events (g.G.Gate.told c.args.crew.now.gate) (g.G.Gate.told c.lease_told.new.gate) (g.G.Gate.told c.do_task.new.crew.gate) c.lease_told.ensures.told c.do_task.ensures.told

pub returns-in-Granted-clause-runs : goal.returns-in-Granted-clause-runs
returns-in-Granted-clause-runs g c =
    let p = c.args.yard.now.ordered.value.plan in
    let r = c.args.yard.now.book.history.events in
    let mid = c.lease_told.new.yard.book.history.events in
    let after_ = c.do_task.new.yard.book.history.events in
    let x = g.T.Tool.runs c.args.crew.now.tool in
    let y = g.T.Tool.runs c.do_task.new.crew.tool in
    let told = c.lease_told.ensures.told in
    runs_both p 0 r mid after_ x x y (runs_still p 0 r mid told.added x told.is) (subst (λ q. RunsWithin q 0 mid after_ x y) (ap (λ o. o.plan) c.lease_told.ensures.same.ordered) c.do_task.ensures.runs)

pub returns-in-Swept-clause-runs : goal.returns-in-Swept-clause-runs
returns-in-Swept-clause-runs g c =
    let told = c.lease_told.ensures.told in
    runs_still c.args.yard.now.ordered.value.plan 0 c.args.yard.now.book.history.events c.lease_told.new.yard.book.history.events told.added (g.T.Tool.runs c.args.crew.now.tool) told.is

pub returns-in-Failed-clause-runs : goal.returns-in-Failed-clause-runs
returns-in-Failed-clause-runs g c =
    let told = c.lease_told.ensures.told in
    runs_still c.args.yard.now.ordered.value.plan 0 c.args.yard.now.book.history.events c.lease_told.new.yard.book.history.events told.added (g.T.Tool.runs c.args.crew.now.tool) told.is

pub returns-in-Again-clause-runs : goal.returns-in-Again-clause-runs
returns-in-Again-clause-runs g c =
    let told = c.lease_told.ensures.told in
    runs_still c.args.yard.now.ordered.value.plan 0 c.args.yard.now.book.history.events c.lease_told.new.yard.book.history.events told.added (g.T.Tool.runs c.args.crew.now.tool) told.is

pub returns-in-Done-clause-runs : goal.returns-in-Done-clause-runs
returns-in-Done-clause-runs g c =
    let told = c.lease_told.ensures.told in
    runs_still c.args.yard.now.ordered.value.plan 0 c.args.yard.now.book.history.events c.lease_told.new.yard.book.history.events told.added (g.T.Tool.runs c.args.crew.now.tool) told.is

pub returns-in-Stopped-clause-runs : goal.returns-in-Stopped-clause-runs
returns-in-Stopped-clause-runs g c =
    let told = c.lease_told.ensures.told in
    runs_still c.args.yard.now.ordered.value.plan 0 c.args.yard.now.book.history.events c.lease_told.new.yard.book.history.events told.added (g.T.Tool.runs c.args.crew.now.tool) told.is
