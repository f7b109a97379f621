use Rattle.std.proofs.Common.{◌∙◌, ℕ, List, [], ◌∷◌, ◌++◌, ap, map, subst}
use Rattle.ruled_lock.specs.Pass.{charter_of, mine_of, seen_of, worker_of}
use Rattle.run_record.specs.Events.{Event}
use Rattle.worker_gate.specs.code.Asking.{AsksOwn}
use Rattle.worker_gate.specs.code.Telling.{IsToldOf}
use Rattle.worker_gate.proofs.RunsLemmas.{own_runs_still, own_runs_task}
use Rattle.worker_gate.proofs.TellingLemmas.{told_then}
use Rattle.worker_gate.specs.code.Tending.{failures_in}
use Rattle.worker_gate.proofs.WorkingLemmas.{begun_for, does_made_by, empty_for, filled_rose, finish_of, inputs_of, plan_parts}
use Rattle.worker_gate.proofs.working.do_task.Goals as goal

pub fill_with-filled-requires-clause-parts : goal.fill_with-filled-requires-clause-parts
fill_with-filled-requires-clause-parts g c =
    let old = c.args.pass.now in
    let t = c.args.task.0 in
    let rs = map g.H.Reading.ReadPart.state c.in-Some.loan.readings.items in
    let ds = map g.H.Draft.WritePart.state c.in-Some.loan.drafts.items in
    plan_parts c.plan_laws.ensures g.T.Tool.apply (charter_of old) c.args.plan.now t rs ds c.requires.plan c.in-Some.ensures.held

pub fill_with-filled-requires-clause-start : goal.fill_with-filled-requires-clause-start
fill_with-filled-requires-clause-start g c =
    let old = c.args.pass.now in
    let t = c.args.task.0 in
    let rs = map g.H.Reading.ReadPart.state c.in-Some.loan.readings.items in
    let ds = map g.H.Draft.WritePart.state c.in-Some.loan.drafts.items in
    begun_for g.T.Tool.apply (charter_of old) t rs ds c.in-Some.ensures.held

pub fill_with-filled-requires-clause-empty : goal.fill_with-filled-requires-clause-empty
fill_with-filled-requires-clause-empty g c =
    let old = c.args.pass.now in
    let t = c.args.task.0 in
    let rs = map g.H.Reading.ReadPart.state c.in-Some.loan.readings.items in
    let ds = map g.H.Draft.WritePart.state c.in-Some.loan.drafts.items in
    empty_for g.T.Tool.apply (charter_of old) t rs ds c.in-Some.ensures.held

pub finish-requires-clause-can : goal.finish-requires-clause-can
finish-requires-clause-can g c =
    let old = c.args.pass.now in
    let t = c.args.task.0 in
    let rs = map g.H.Reading.ReadPart.state c.in-Some.loan.readings.items in
    let ds = map g.H.Draft.WritePart.state c.in-Some.loan.drafts.items in
    let filled = c.fill_with-filled in
    let rs1 = map g.H.Reading.ReadPart.state filled.new.loan.readings.items in
    let ds1 = map g.H.Draft.WritePart.state filled.new.loan.drafts.items in
    finish_of c.plan_laws.ensures g.T.Tool.apply (c.runs_carry_what_they_compute.ensures g.T.Tool.apply) (charter_of old) (charter_of c.begin.new.pass) c.args.plan.now t rs rs1 ds ds1 (g.T.Tool.faults c.args.crew.now.tool) (g.T.Tool.faults filled.new.tool) filled.result c.begin.ensures.keeps.same.charter c.requires.plan c.in-Some.ensures.held filled.ensures.fills

pub finish-requires-clause-inputs : goal.finish-requires-clause-inputs
finish-requires-clause-inputs g c =
    let old = c.args.pass.now in
    let t = c.args.task.0 in
    let rs = map g.H.Reading.ReadPart.state c.in-Some.loan.readings.items in
    let ds = map g.H.Draft.WritePart.state c.in-Some.loan.drafts.items in
    let filled = c.fill_with-filled in
    let rs1 = map g.H.Reading.ReadPart.state filled.new.loan.readings.items in
    let ds1 = map g.H.Draft.WritePart.state filled.new.loan.drafts.items in
    inputs_of c.plan_laws.ensures g.T.Tool.apply (c.runs_carry_what_they_compute.ensures g.T.Tool.apply) (charter_of old) (charter_of c.begin.new.pass) c.args.plan.now t rs rs1 ds ds1 (g.T.Tool.faults c.args.crew.now.tool) (g.T.Tool.faults filled.new.tool) filled.result c.begin.ensures.keeps.same.charter c.requires.plan c.in-Some.ensures.held filled.ensures.fills

pub returns-clause-asked : goal.returns-clause-asked
returns-clause-asked g c =
    let xs = g.G.Gate.asked c.args.crew.now.gate in
    subst (λ (l : List Event). AsksOwn l (mine_of c.finish.new.pass) xs (g.G.Gate.asked c.finish.new.gate)) c.in-Some.ensures.mine
    (c.finish.ensures.asked xs (c.before-2.ensures.asked ∙ ap (λ (l : List ℕ). l ++ c.args.task.0 ∷ []) c.begin.ensures.gate))

pub returns-clause-told : goal.returns-clause-told
returns-clause-told g c =
    let old = c.args.pass.now in
    let mid = c.begin.new.pass in
    let new = c.finish.new.pass in
    let here = g.G.Gate.told c.begin.new.gate in
    let later = g.G.Gate.told c.finish.new.gate in
    told_then (worker_of old) (worker_of mid) (seen_of old) (seen_of mid) (seen_of new) (g.G.Gate.told c.args.crew.now.gate) here later c.begin.ensures.keeps.same.worker c.begin.ensures.told
    (subst (λ (l : List (ℕ × Event)). IsToldOf (worker_of mid) (seen_of mid) (seen_of new) l later) c.before-2.ensures.told c.finish.ensures.told)

pub returns-clause-does : goal.returns-clause-does
returns-clause-does g c =
    let old = c.args.pass.now in
    let mid = c.begin.new.pass in
    let t = c.args.task.0 in
    let rs = map g.H.Reading.ReadPart.state c.in-Some.loan.readings.items in
    let ds = map g.H.Draft.WritePart.state c.in-Some.loan.drafts.items in
    let filled = c.fill_with-filled in
    let rs1 = map g.H.Reading.ReadPart.state filled.new.loan.readings.items in
    let ds1 = map g.H.Draft.WritePart.state filled.new.loan.drafts.items in
    let x = g.T.Tool.faults c.args.crew.now.tool in
    let y = g.T.Tool.faults filled.new.tool in
    does_made_by (worker_of old) (worker_of mid) t (failures_in filled.result) (mine_of old) (mine_of mid) (mine_of c.finish.new.pass) x y c.begin.ensures.keeps.same.worker c.in-Some.ensures.mine c.finish.ensures.finishes (filled_rose g.T.Tool.apply c.args.plan.now t rs rs1 ds ds1 x y filled.result filled.ensures.fills)

pub returns-clause-runs : goal.returns-clause-runs
returns-clause-runs g c =
    let old = c.args.pass.now in
    let mid = c.begin.new.pass in
    let done = c.finish.ensures.finishes in
    own_runs_task (charter_of old) c.args.plan.now (worker_of old) (worker_of mid) c.args.task.0 (mine_of old) (mine_of mid) (mine_of c.finish.new.pass) done.entry (g.T.Tool.runs c.args.crew.now.tool) (g.T.Tool.runs c.fill_with-filled.new.tool)
    c.requires.plan c.begin.ensures.keeps.same.worker c.in-Some.ensures.mine done.is done.last c.fill_with-filled.ensures.runs

pub returns-in_default-clause-runs : goal.returns-in_default-clause-runs
returns-in_default-clause-runs g c =
    let old = c.args.pass.now in
    let asked = c.begin.ensures.asked in
    own_runs_still (charter_of old) (worker_of old) (mine_of old) (mine_of c.begin.new.pass) asked.added (g.T.Tool.runs c.args.crew.now.tool) asked.is
