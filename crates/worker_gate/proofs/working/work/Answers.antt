use Rattle.std.proofs.Common.{ℕ, ◌<◌, subst, sym}
use Rattle.std.specs.Prelude.{Option}
use Rattle.ruled_lock.specs.Pass.{charter_of, mine_of, seen_of, worker_of}
use Rattle.site_yard.specs.declared.chronicle.Charter.{Charter}
use Rattle.worker_gate.specs.code.Turning.{IsPlanOf, NoneOpenBy}
use Rattle.worker_gate.proofs.AskingLemmas.{asks_nothing, asks_then}
use Rattle.worker_gate.proofs.InputsLemmas.{own_both, own_none}
use Rattle.worker_gate.proofs.RunsLemmas.{own_runs_both, own_runs_same}
use Rattle.worker_gate.proofs.TellingLemmas.{told_then}
use Rattle.worker_gate.proofs.WorkingLemmas.{keeps_on, works_from}
use Rattle.worker_gate.proofs.working.work.Goals as goal

pub work_by-requires-clause-worker : goal.work_by-requires-clause-worker
work_by-requires-clause-worker g c = subst (λ (w : ℕ). w < 16) (sym c.copy_plan-plan.ensures.keeps.same.worker) c.requires.worker

pub work_by-requires-clause-none_open : goal.work_by-requires-clause-none_open
work_by-requires-clause-none_open g c = subst NoneOpenBy (sym c.copy_plan-plan.ensures.mine) c.copy_plan-plan.ensures.none_open

pub work_by-requires-clause-plan : goal.work_by-requires-clause-plan
work_by-requires-clause-plan g c =
    subst (λ (k : Option Charter). IsPlanOf k c.copy_plan-plan.result) (sym c.copy_plan-plan.ensures.keeps.same.charter) c.copy_plan-plan.ensures.plan

pub returns-clause-keeps : goal.returns-clause-keeps
returns-clause-keeps g c = keeps_on c.args.lock.now c.args.pass.now c.copy_plan-plan.new.pass c.work_by.new.pass c.copy_plan-plan.ensures.keeps c.work_by.ensures.keeps

pub returns-clause-works : goal.returns-clause-works
returns-clause-works g c =
    let old = c.args.pass.now in
    let mid = c.copy_plan-plan.new.pass in
    let new = c.work_by.new.pass in
    let e = c.copy_plan-plan.ensures in
    works_from (worker_of mid) (worker_of old) (charter_of old) (charter_of mid) (mine_of old) (mine_of mid) (mine_of new) (seen_of new) (g.T.Tool.faults c.args.crew.now.tool) (g.T.Tool.faults c.work_by.new.crew.tool) e.keeps.same.worker e.keeps.same.charter e.mine c.work_by.ensures.works

pub returns-clause-inputs : goal.returns-clause-inputs
returns-clause-inputs g c =
    let old = c.args.pass.now in
    let mid = c.copy_plan-plan.new.pass in
    let e = c.copy_plan-plan.ensures in
    own_both g.T.Tool.apply (charter_of old) (charter_of mid) (mine_of old) (mine_of mid) (mine_of c.work_by.new.pass) e.keeps.same.charter (own_none g.T.Tool.apply (charter_of old) (mine_of old) (mine_of mid) e.mine) c.work_by.ensures.inputs

pub returns-clause-asked : goal.returns-clause-asked
returns-clause-asked g c =
    let old = c.args.pass.now in
    let mid = c.copy_plan-plan.new.pass in
    let first = g.G.Gate.asked c.args.crew.now.gate in
    asks_then (mine_of old) (mine_of mid) (mine_of c.work_by.new.pass) first first (g.G.Gate.asked c.work_by.new.crew.gate) (asks_nothing (mine_of old) (mine_of mid) first c.copy_plan-plan.ensures.mine) c.work_by.ensures.asked

pub returns-clause-told : goal.returns-clause-told
returns-clause-told g c =
    let old = c.args.pass.now in
    let mid = c.copy_plan-plan.new.pass in
    let first = g.G.Gate.told c.args.crew.now.gate in
    let e = c.copy_plan-plan.ensures in
    told_then (worker_of old) (worker_of mid) (seen_of old) (seen_of mid) (seen_of c.work_by.new.pass) first first (g.G.Gate.told c.work_by.new.crew.gate) e.keeps.same.worker (e.told first) c.work_by.ensures.told

pub returns-clause-runs : goal.returns-clause-runs
returns-clause-runs g c =
    let old = c.args.pass.now in
    let mid = c.copy_plan-plan.new.pass in
    let e = c.copy_plan-plan.ensures in
    let x = g.T.Tool.runs c.args.crew.now.tool in
    own_runs_both (charter_of old) (charter_of mid) (worker_of old) (worker_of mid) (mine_of old) (mine_of mid) (mine_of c.work_by.new.pass) x x (g.T.Tool.runs c.work_by.new.crew.tool) e.keeps.same.charter e.keeps.same.worker (own_runs_same (charter_of old) (worker_of old) (mine_of old) (mine_of mid) x e.mine) c.work_by.ensures.runs
