use Rattle.std.proofs.Common.{◌∙◌, ◌+◌, ◌≤◌, ◌++◌, ◌∷◌, [], ap, map, subst, sym, take}
use Rattle.plan_core.specs.declared.plan.Plan.{Plan}
use Rattle.plan_core.specs.code.Proper.{IsProper}
use Rattle.plan_core.specs.Words.{kind}
use Rattle.lease_book.specs.Book.{state_at}
use Rattle.task_work.specs.Filling.{AreParts}
use Rattle.worker_gate.specs.code.Inputs.{IsFilledOf}
use Rattle.worker_gate.specs.code.Tending.{Fills}
use Rattle.worker_gate.specs.code.Calls.{EndsCalls}
use Rattle.worker_gate.proofs.CallsLemmas.{lent_then}
use Rattle.worker_gate.proofs.FillingLemmas.{fills_finish, fills_of, finish_then}
use Rattle.worker_gate.proofs.LoanLemmas.{held_begun, held_empty, lent_held, parts_are}
use Rattle.worker_gate.specs.code.Runs.{job_count}
use Rattle.worker_gate.proofs.RunsLemmas.{last_within, runs_still}
use Rattle.worker_gate.proofs.StateLemmas.{open_loan}
use Rattle.worker_gate.proofs.TellingLemmas.{told_both}
use Rattle.worker_gate.proofs.TurningLemmas.{done_last}
use Rattle.worker_gate.proofs.WorkLemmas.{consistent_at}
use Rattle.worker_gate.proofs.stepping.do_task.Goals as goal

pub fill_loan-filled-requires-clause-parts : goal.fill_loan-filled-requires-clause-parts
fill_loan-filled-requires-clause-parts g c =
    let y = c.args.yard.now in
    let p = y.ordered.value.plan in
    let first = take y.opened y.book.history.events in
    let m = g.H.Host.marked y.host in
    let o = g.H.Host.told y.host in
    let t = c.args.task.0 in
    let rs = map g.H.Reading.ReadPart.state c.in-Some.loan.readings.items in
    let ds = map g.H.Draft.WritePart.state c.in-Some.loan.drafts.items in
    let proper = subst IsProper y.same_plan y.book.proper in
    subst (λ (q : Plan). AreParts q t (kind q t) rs ds) (sym (c.plan.ensures ∙ ap (λ z. z.plan) c.lend_told.ensures.same.ordered))
    (parts_are g.T.Tool.apply p proper (c.plan_laws.ensures p proper) first m o t rs ds (open_loan y.book.plan p (state_at y.book) t y.same_plan (consistent_at y.book).sound c.requires.runs) (lent_held g.T.Tool.apply p first m o t rs ds c.in-Some.ensures.lent))

pub fill_loan-filled-requires-clause-start : goal.fill_loan-filled-requires-clause-start
fill_loan-filled-requires-clause-start g c =
    let y = c.args.yard.now in
    let p = y.ordered.value.plan in
    let first = take y.opened y.book.history.events in
    let m = g.H.Host.marked y.host in
    let o = g.H.Host.told y.host in
    let t = c.args.task.0 in
    let rs = map g.H.Reading.ReadPart.state c.in-Some.loan.readings.items in
    let ds = map g.H.Draft.WritePart.state c.in-Some.loan.drafts.items in
    held_begun g.T.Tool.apply p first m o t rs ds (lent_held g.T.Tool.apply p first m o t rs ds c.in-Some.ensures.lent)

pub fill_loan-filled-requires-clause-empty : goal.fill_loan-filled-requires-clause-empty
fill_loan-filled-requires-clause-empty g c =
    let y = c.args.yard.now in
    let p = y.ordered.value.plan in
    let first = take y.opened y.book.history.events in
    let m = g.H.Host.marked y.host in
    let o = g.H.Host.told y.host in
    let t = c.args.task.0 in
    let rs = map g.H.Reading.ReadPart.state c.in-Some.loan.readings.items in
    let ds = map g.H.Draft.WritePart.state c.in-Some.loan.drafts.items in
    held_empty g.T.Tool.apply p first m o t rs ds (lent_held g.T.Tool.apply p first m o t rs ds c.in-Some.ensures.lent)

pub finish_told-requires-clause-can : goal.finish_told-requires-clause-can
finish_told-requires-clause-can g c =
    let y = c.args.yard.now in
    let z = c.lend_told.new.yard in
    let e = c.in-Some.ensures in
    let p = y.ordered.value.plan in
    let first = take y.opened y.book.history.events in
    let m = g.H.Host.marked y.host in
    let o = g.H.Host.told y.host in
    let t = c.args.task.0 in
    let rs = map g.H.Reading.ReadPart.state c.in-Some.loan.readings.items in
    let ds = map g.H.Draft.WritePart.state c.in-Some.loan.drafts.items in
    let filled = c.fill_loan-filled in
    let rs1 = map g.H.Reading.ReadPart.state filled.new.loan.readings.items in
    let ds1 = map g.H.Draft.WritePart.state filled.new.loan.drafts.items in
    let a = g.T.Tool.faults c.args.crew.now.tool in
    let b = g.T.Tool.faults filled.new.tool in
    let proper = subst IsProper y.same_plan y.book.proper in
    let fills = subst (λ (q : Plan). Fills g.T.Tool.apply q t rs rs1 ds ds1 a b filled.result) (c.plan.ensures ∙ ap (λ x. x.plan) c.lend_told.ensures.same.ordered) filled.ensures.fills in
    finish_then g.T.Tool.apply p z.ordered.value.plan first (take z.opened z.book.history.events) m (g.H.Host.marked z.host) o (g.H.Host.told z.host) t rs1 ds1 filled.result
    (ap (λ x. x.plan) c.lend_told.ensures.same.ordered) (λ i. take (c.lend_told.ensures.same.opened i) (e.history i)) c.lend_told.ensures.same.marked c.lend_told.ensures.told
    (fills_finish g.T.Tool.apply p proper (c.plan_laws.ensures p proper) (c.runs_carry_what_they_compute.ensures g.T.Tool.apply) first m t rs rs1 ds ds1 o a b filled.result (lent_held g.T.Tool.apply p first m o t rs ds e.lent) fills)

pub finish_told-requires-clause-inputs : goal.finish_told-requires-clause-inputs
finish_told-requires-clause-inputs g c =
    let y = c.args.yard.now in
    let e = c.in-Some.ensures in
    let p = y.ordered.value.plan in
    let first = take y.opened y.book.history.events in
    let m = g.H.Host.marked y.host in
    let o = g.H.Host.told y.host in
    let t = c.args.task.0 in
    let rs = map g.H.Reading.ReadPart.state c.in-Some.loan.readings.items in
    let ds = map g.H.Draft.WritePart.state c.in-Some.loan.drafts.items in
    let filled = c.fill_loan-filled in
    let rs1 = map g.H.Reading.ReadPart.state filled.new.loan.readings.items in
    let ds1 = map g.H.Draft.WritePart.state filled.new.loan.drafts.items in
    let a = g.T.Tool.faults c.args.crew.now.tool in
    let b = g.T.Tool.faults filled.new.tool in
    let proper = subst IsProper y.same_plan y.book.proper in
    let fills = subst (λ (q : Plan). Fills g.T.Tool.apply q t rs rs1 ds ds1 a b filled.result) (c.plan.ensures ∙ ap (λ x. x.plan) c.lend_told.ensures.same.ordered) filled.ensures.fills in
    subst (λ (q : Plan). IsFilledOf g.T.Tool.apply q t filled.result) (sym (ap (λ x. x.plan) c.lend_told.ensures.same.ordered))
    (fills_of g.T.Tool.apply p proper (c.plan_laws.ensures p proper) (c.runs_carry_what_they_compute.ensures g.T.Tool.apply) first m t rs rs1 ds ds1 o a b filled.result (lent_held g.T.Tool.apply p first m o t rs ds e.lent) fills)

pub returns-in-Some-clause-calls : goal.returns-in-Some-clause-calls
returns-in-Some-clause-calls g c =
    let y = c.args.yard.now in
    let z = c.lend_told.new.yard in
    let e = c.in-Some.ensures in
    lent_then y.ordered.value.plan c.args.task.0 y.book.history.events z.book.history.events _ (g.H.Host.counts y.host) (g.H.Host.counts z.host) _ e.history e.asked
    (subst (λ (q : Plan). EndsCalls q c.args.task.0 z.book.history.events c.finish_told.new.yard.book.history.events (g.H.Host.counts z.host) (g.H.Host.counts c.finish_told.new.yard.host)) (ap (λ x. x.plan) c.lend_told.ensures.same.ordered) c.finish_told.ensures.calls) c.finish_told.ensures.same.later

pub returns-in-Some-clause-asked : goal.returns-in-Some-clause-asked
returns-in-Some-clause-asked g c = c.finish_told.ensures.asked ∙ c.lend_told.ensures.gate

pub returns-in-Some-clause-told : goal.returns-in-Some-clause-told
returns-in-Some-clause-told g c = told_both c.args.worker c.args.yard.now.book.history.events c.lend_told.new.yard.book.history.events c.finish_told.new.yard.book.history.events (g.G.Gate.told c.args.crew.now.gate) (g.G.Gate.told c.lend_told.new.gate) (g.G.Gate.told c.finish_told.new.gate) c.lend_told.ensures.entered c.finish_told.ensures.told

pub returns-in-Some-clause-runs : goal.returns-in-Some-clause-runs
returns-in-Some-clause-runs g c =
    let p = c.args.yard.now.ordered.value.plan in
    let w = c.args.worker in
    let t = c.args.task.0 in
    let x = g.T.Tool.runs c.args.crew.now.tool in
    let y = g.T.Tool.runs c.fill_loan-filled.new.tool in
    let ends = c.finish_told.ensures.ends in
    last_within p w t c.args.yard.now.book.history.events c.finish_told.new.yard.book.history.events ends.entry x y (ends.is ∙ ap (λ l. l ++ ends.entry ∷ []) c.in-Some.ensures.history) (done_last w t ends.entry ends.done)
    (subst (λ (q : Plan). y ≤ x + job_count q t) (c.plan.ensures ∙ ap (λ z. z.plan) c.lend_told.ensures.same.ordered) c.fill_loan-filled.ensures.runs)

pub returns-in_default-clause-runs : goal.returns-in_default-clause-runs
returns-in_default-clause-runs g c =
    let told = c.lend_told.ensures.entered in
    runs_still c.args.yard.now.ordered.value.plan c.args.worker c.args.yard.now.book.history.events c.lend_told.new.yard.book.history.events told.added (g.T.Tool.runs c.args.crew.now.tool) told.is
