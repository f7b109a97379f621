use Rattle.std.proofs.Common.{◌∙◌, ℕ, List, refl, subst, sym}
use Rattle.std.specs.Prelude.{IfSome}
use Rattle.run_record.specs.Events.{Event}
use Rattle.ruled_lock.specs.Pass.{charter_of, mine_of, seen_of, worker_of}
use Rattle.worker_gate.specs.code.Asking.{AsksOwn}
use Rattle.worker_gate.specs.code.Inputs.{AddsOfInputs}
use Rattle.worker_gate.specs.code.Runs.{OwnRunsWithin}
use Rattle.worker_gate.specs.code.Telling.{IsToldOf}
use Rattle.worker_gate.specs.code.Turning.{KeepsTurn, plan_of}
use Rattle.worker_gate.proofs.AskingLemmas.{asks_nothing, asks_then}
use Rattle.worker_gate.proofs.InputsLemmas.{own_both, own_none}
use Rattle.worker_gate.proofs.RunsLemmas.{leased_runs, own_runs_both, own_runs_same}
use Rattle.worker_gate.proofs.TellingLemmas.{told_nothing, told_then}
use Rattle.worker_gate.proofs.WorkingLemmas.{granted_opens, keeps_on, own_does_by, own_finishes_by, own_first, own_over_by, own_same, rising, still_tool}
use Rattle.worker_gate.proofs.working.work_by.Goals as goal

pub loop-init : goal.loop-init
loop-init g c =
    let old = c.args.pass.now in
    let mine = mine_of old in
    let x = g.T.Tool.faults c.args.crew.now.tool in
    let asked = g.G.Gate.asked c.args.crew.now.gate in
    let told = g.G.Gate.told c.args.crew.now.gate in
    let here : KeepsTurn c.args.lock.now old old = record { of = c.requires.of; idle = c.requires.idle; same = record { worker = refl; charter = refl; count = refl; joined = refl } } in
    (here, own_first (worker_of old) mine mine x refl c.requires.none_open, still_tool x, c.requires.plan, own_none g.T.Tool.apply (charter_of old) mine mine refl, asks_nothing mine mine asked refl, told_nothing (worker_of old) (seen_of old) (seen_of old) told told refl refl, own_runs_same (charter_of old) (worker_of old) mine mine (g.T.Tool.runs c.args.crew.now.tool) refl)

pub do_task-requires-clause-open : goal.do_task-requires-clause-open
do_task-requires-clause-open g c = granted_opens (worker_of c.loop.pass) c.in-Granted.task.0 (mine_of c.loop.pass) (mine_of c.lease.new.pass) c.in-Granted.ensures.leased

pub loop-preserved-in-Granted : goal.loop-preserved-in-Granted
loop-preserved-in-Granted g c =
    let old = c.args.pass.now in
    let here = c.loop.pass in
    let leased = c.lease.new.pass in
    let done = c.do_task.new.pass in
    let i = c.loop.invariant in
    let l = c.lease.ensures in
    let d = c.do_task.ensures in
    let x = g.T.Tool.faults c.args.crew.now.tool in
    let y = g.T.Tool.faults c.loop.crew.tool in
    let z = g.T.Tool.faults c.do_task.new.crew.tool in
    let first = g.G.Gate.asked c.args.crew.now.gate in
    let now = g.G.Gate.asked c.loop.crew.gate in
    let mid = g.G.Gate.asked c.lease.new.gate in
    let later = g.G.Gate.asked c.do_task.new.crew.gate in
    let x0 = g.G.Gate.told c.args.crew.now.gate in
    let x1 = g.G.Gate.told c.loop.crew.gate in
    let x2 = g.G.Gate.told c.lease.new.gate in
    let x3 = g.G.Gate.told c.do_task.new.crew.gate in (
      keeps_on c.args.lock.now old here done i.0 (keeps_on c.args.lock.now here leased done l.keeps d.keeps),
      own_does_by (worker_of old) (worker_of here) (worker_of leased) c.in-Granted.task.0 (mine_of old) (mine_of here) (mine_of leased) (mine_of done) x y z i.0.same.worker (l.keeps.same.worker ∙ i.0.same.worker) i.1 c.in-Granted.ensures.leased d.tool d.does,
      rising x y z i.2 d.tool,
      i.3,
      own_both g.T.Tool.apply (charter_of old) (charter_of leased) (mine_of old) (mine_of leased) (mine_of done) (l.keeps.same.charter ∙ i.0.same.charter) (own_both g.T.Tool.apply (charter_of old) (charter_of here) (mine_of old) (mine_of here) (mine_of leased) i.0.same.charter i.4 l.inputs) d.inputs,
      asks_then (mine_of old) (mine_of leased) (mine_of done) first mid later (asks_then (mine_of old) (mine_of here) (mine_of leased) first now mid i.5 l.asked) d.asked,
      told_then (worker_of old) (worker_of leased) (seen_of old) (seen_of leased) (seen_of done) x0 x2 x3 (l.keeps.same.worker ∙ i.0.same.worker) (told_then (worker_of old) (worker_of here) (seen_of old) (seen_of here) (seen_of leased) x0 x1 x2 i.0.same.worker i.6 l.told) d.told,
      own_runs_both (charter_of old) (charter_of leased) (worker_of old) (worker_of leased) (mine_of old) (mine_of leased) (mine_of done) (g.T.Tool.runs c.args.crew.now.tool) (g.T.Tool.runs c.loop.crew.tool) (g.T.Tool.runs c.do_task.new.crew.tool) (l.keeps.same.charter ∙ i.0.same.charter) (l.keeps.same.worker ∙ i.0.same.worker)
          (leased_runs (charter_of old) (charter_of here) (worker_of old) (worker_of here) (mine_of old) (mine_of here) (mine_of leased) l.asked.added (g.T.Tool.runs c.args.crew.now.tool) (g.T.Tool.runs c.loop.crew.tool) i.0.same.charter i.0.same.worker i.7 l.asked.is) d.runs,
    )

pub loop-preserved-in-Swept : goal.loop-preserved-in-Swept
loop-preserved-in-Swept g c =
    let old = c.args.pass.now in
    let here = c.loop.pass in
    let leased = c.lease.new.pass in
    let i = c.loop.invariant in
    let l = c.lease.ensures in
    let x = g.T.Tool.faults c.args.crew.now.tool in
    let y = g.T.Tool.faults c.loop.crew.tool in
    let first = g.G.Gate.asked c.args.crew.now.gate in
    let now = g.G.Gate.asked c.loop.crew.gate in
    let mid = g.G.Gate.asked c.lease.new.gate in (
      keeps_on c.args.lock.now old here leased i.0 l.keeps,
      own_finishes_by (worker_of old) (worker_of here) c.in-Swept.field-0.0 (mine_of old) (mine_of here) (mine_of leased) x y i.0.same.worker i.1 c.in-Swept.ensures.leased,
      i.2,
      i.3,
      own_both g.T.Tool.apply (charter_of old) (charter_of here) (mine_of old) (mine_of here) (mine_of leased) i.0.same.charter i.4 l.inputs,
      asks_then (mine_of old) (mine_of here) (mine_of leased) first now mid i.5 l.asked,
      told_then (worker_of old) (worker_of here) (seen_of old) (seen_of here) (seen_of leased) (g.G.Gate.told c.args.crew.now.gate) (g.G.Gate.told c.loop.crew.gate) (g.G.Gate.told c.lease.new.gate) i.0.same.worker i.6 l.told,
      leased_runs (charter_of old) (charter_of here) (worker_of old) (worker_of here) (mine_of old) (mine_of here) (mine_of leased) l.asked.added (g.T.Tool.runs c.args.crew.now.tool) (g.T.Tool.runs c.loop.crew.tool) i.0.same.charter i.0.same.worker i.7 l.asked.is,
    )

pub loop-preserved-in-Failed : goal.loop-preserved-in-Failed
loop-preserved-in-Failed g c =
    let old = c.args.pass.now in
    let here = c.loop.pass in
    let leased = c.lease.new.pass in
    let i = c.loop.invariant in
    let l = c.lease.ensures in
    let x = g.T.Tool.faults c.args.crew.now.tool in
    let y = g.T.Tool.faults c.loop.crew.tool in
    let first = g.G.Gate.asked c.args.crew.now.gate in
    let now = g.G.Gate.asked c.loop.crew.gate in
    let mid = g.G.Gate.asked c.lease.new.gate in (
      keeps_on c.args.lock.now old here leased i.0 l.keeps,
      own_finishes_by (worker_of old) (worker_of here) c.in-Failed.field-0.0 (mine_of old) (mine_of here) (mine_of leased) x y i.0.same.worker i.1 c.in-Failed.ensures.leased,
      i.2,
      i.3,
      own_both g.T.Tool.apply (charter_of old) (charter_of here) (mine_of old) (mine_of here) (mine_of leased) i.0.same.charter i.4 l.inputs,
      asks_then (mine_of old) (mine_of here) (mine_of leased) first now mid i.5 l.asked,
      told_then (worker_of old) (worker_of here) (seen_of old) (seen_of here) (seen_of leased) (g.G.Gate.told c.args.crew.now.gate) (g.G.Gate.told c.loop.crew.gate) (g.G.Gate.told c.lease.new.gate) i.0.same.worker i.6 l.told,
      leased_runs (charter_of old) (charter_of here) (worker_of old) (worker_of here) (mine_of old) (mine_of here) (mine_of leased) l.asked.added (g.T.Tool.runs c.args.crew.now.tool) (g.T.Tool.runs c.loop.crew.tool) i.0.same.charter i.0.same.worker i.7 l.asked.is,
    )

pub loop-preserved-in-Again : goal.loop-preserved-in-Again
loop-preserved-in-Again g c =
    let old = c.args.pass.now in
    let here = c.loop.pass in
    let leased = c.lease.new.pass in
    let i = c.loop.invariant in
    let l = c.lease.ensures in
    let x = g.T.Tool.faults c.args.crew.now.tool in
    let y = g.T.Tool.faults c.loop.crew.tool in
    let first = g.G.Gate.asked c.args.crew.now.gate in
    let now = g.G.Gate.asked c.loop.crew.gate in
    let mid = g.G.Gate.asked c.lease.new.gate in (
      keeps_on c.args.lock.now old here leased i.0 l.keeps,
      own_finishes_by (worker_of old) (worker_of here) c.in-Again.field-0.0 (mine_of old) (mine_of here) (mine_of leased) x y i.0.same.worker i.1 c.in-Again.ensures.leased,
      i.2,
      i.3,
      own_both g.T.Tool.apply (charter_of old) (charter_of here) (mine_of old) (mine_of here) (mine_of leased) i.0.same.charter i.4 l.inputs,
      asks_then (mine_of old) (mine_of here) (mine_of leased) first now mid i.5 l.asked,
      told_then (worker_of old) (worker_of here) (seen_of old) (seen_of here) (seen_of leased) (g.G.Gate.told c.args.crew.now.gate) (g.G.Gate.told c.loop.crew.gate) (g.G.Gate.told c.lease.new.gate) i.0.same.worker i.6 l.told,
      leased_runs (charter_of old) (charter_of here) (worker_of old) (worker_of here) (mine_of old) (mine_of here) (mine_of leased) l.asked.added (g.T.Tool.runs c.args.crew.now.tool) (g.T.Tool.runs c.loop.crew.tool) i.0.same.charter i.0.same.worker i.7 l.asked.is,
    )

pub loop-preserved : goal.loop-preserved
loop-preserved g c =
    let old = c.args.pass.now in
    let here = c.loop.pass in
    let leased = c.lease.new.pass in
    let done = c.changed.new.pass in
    let i = c.loop.invariant in
    let l = c.lease.ensures in
    let e = c.changed.ensures in
    let x = g.T.Tool.faults c.args.crew.now.tool in
    let y = g.T.Tool.faults c.loop.crew.tool in
    let first = g.G.Gate.asked c.args.crew.now.gate in
    let now = g.G.Gate.asked c.loop.crew.gate in
    let mid = g.G.Gate.asked c.lease.new.gate in
    let later = g.G.Gate.asked c.idle.new.self in
    let x0 = g.G.Gate.told c.args.crew.now.gate in
    let x1 = g.G.Gate.told c.loop.crew.gate in
    let x2 = g.G.Gate.told c.lease.new.gate in
    let x3 = g.G.Gate.told c.idle.new.self in
    let waited : KeepsTurn c.args.lock.now leased done = record { of = e.of; idle = e.idle; same = e.same } in (
      keeps_on c.args.lock.now old here done i.0 (keeps_on c.args.lock.now here leased done l.keeps waited),
      own_same (worker_of old) (mine_of old) (mine_of here) (mine_of done) x y i.1 (e.lists.1 ∙ c.in-NotYet.ensures.leased),
      i.2,
      i.3,
      subst (λ (m : List Event). IfSome (charter_of old) (λ d. AddsOfInputs g.T.Tool.apply (plan_of d) (mine_of old) m)) (sym e.lists.1)
          (own_both g.T.Tool.apply (charter_of old) (charter_of here) (mine_of old) (mine_of here) (mine_of leased) i.0.same.charter i.4 l.inputs),
      subst (λ (m : List Event). AsksOwn (mine_of old) m first later) (sym e.lists.1)
          (subst (λ (ts : List ℕ). AsksOwn (mine_of old) (mine_of leased) first ts) (sym c.idle.ensures.asked)
          (asks_then (mine_of old) (mine_of here) (mine_of leased) first now mid i.5 l.asked)),
      subst (λ (r : List Event). IsToldOf (worker_of old) (seen_of old) r x0 x3) (sym e.lists.0)
          (subst (λ (ys : List (ℕ × Event)). IsToldOf (worker_of old) (seen_of old) (seen_of leased) x0 ys) (sym c.idle.ensures.told)
          (told_then (worker_of old) (worker_of here) (seen_of old) (seen_of here) (seen_of leased) x0 x1 x2 i.0.same.worker i.6 l.told)),
      subst (λ (m : List Event). OwnRunsWithin (charter_of old) (worker_of old) (mine_of old) m (g.T.Tool.runs c.args.crew.now.tool) (g.T.Tool.runs c.loop.crew.tool)) (sym e.lists.1)
          (leased_runs (charter_of old) (charter_of here) (worker_of old) (worker_of here) (mine_of old) (mine_of here) (mine_of leased) l.asked.added (g.T.Tool.runs c.args.crew.now.tool) (g.T.Tool.runs c.loop.crew.tool) i.0.same.charter i.0.same.worker i.7 l.asked.is),
    )

pub returns-in-Done-clause-inputs : goal.returns-in-Done-clause-inputs
returns-in-Done-clause-inputs g c =
    let old = c.args.pass.now in
    let here = c.loop.pass in
    own_both g.T.Tool.apply (charter_of old) (charter_of here) (mine_of old) (mine_of here) (mine_of c.lease.new.pass) c.loop.invariant.0.same.charter c.loop.invariant.4 c.lease.ensures.inputs

pub returns-in-Stopped-clause-inputs : goal.returns-in-Stopped-clause-inputs
returns-in-Stopped-clause-inputs g c =
    let old = c.args.pass.now in
    let here = c.loop.pass in
    own_both g.T.Tool.apply (charter_of old) (charter_of here) (mine_of old) (mine_of here) (mine_of c.lease.new.pass) c.loop.invariant.0.same.charter c.loop.invariant.4 c.lease.ensures.inputs

pub returns-in-Done-clause-asked : goal.returns-in-Done-clause-asked
returns-in-Done-clause-asked g c = asks_then (mine_of c.args.pass.now) (mine_of c.loop.pass) (mine_of c.lease.new.pass) (g.G.Gate.asked c.args.crew.now.gate) (g.G.Gate.asked c.loop.crew.gate) (g.G.Gate.asked c.lease.new.gate) c.loop.invariant.5 c.lease.ensures.asked

pub returns-in-Done-clause-told : goal.returns-in-Done-clause-told
returns-in-Done-clause-told g c =
    let old = c.args.pass.now in
    let here = c.loop.pass in
    told_then (worker_of old) (worker_of here) (seen_of old) (seen_of here) (seen_of c.lease.new.pass) (g.G.Gate.told c.args.crew.now.gate) (g.G.Gate.told c.loop.crew.gate) (g.G.Gate.told c.lease.new.gate) c.loop.invariant.0.same.worker c.loop.invariant.6 c.lease.ensures.told

pub returns-in-Stopped-clause-asked : goal.returns-in-Stopped-clause-asked
returns-in-Stopped-clause-asked g c = asks_then (mine_of c.args.pass.now) (mine_of c.loop.pass) (mine_of c.lease.new.pass) (g.G.Gate.asked c.args.crew.now.gate) (g.G.Gate.asked c.loop.crew.gate) (g.G.Gate.asked c.lease.new.gate) c.loop.invariant.5 c.lease.ensures.asked

pub returns-in-Stopped-clause-told : goal.returns-in-Stopped-clause-told
returns-in-Stopped-clause-told g c =
    let old = c.args.pass.now in
    let here = c.loop.pass in
    told_then (worker_of old) (worker_of here) (seen_of old) (seen_of here) (seen_of c.lease.new.pass) (g.G.Gate.told c.args.crew.now.gate) (g.G.Gate.told c.loop.crew.gate) (g.G.Gate.told c.lease.new.gate) c.loop.invariant.0.same.worker c.loop.invariant.6 c.lease.ensures.told

pub returns-in-Done-clause-works : goal.returns-in-Done-clause-works
returns-in-Done-clause-works g c =
    let old = c.args.pass.now in
    let here = c.loop.pass in
    let i = c.loop.invariant in
    own_over_by (worker_of old) (worker_of here) (charter_of old) (charter_of here) (mine_of old) (mine_of here) (mine_of c.lease.new.pass) (seen_of c.lease.new.pass) (g.T.Tool.faults c.args.crew.now.tool) (g.T.Tool.faults c.loop.crew.tool) i.0.same.worker i.0.same.charter i.1 c.in-Done.ensures.leased

pub returns-in-Stopped-clause-works : goal.returns-in-Stopped-clause-works
returns-in-Stopped-clause-works g c =
    let old = c.args.pass.now in
    let here = c.loop.pass in
    let i = c.loop.invariant in
    own_over_by (worker_of old) (worker_of here) (charter_of old) (charter_of here) (mine_of old) (mine_of here) (mine_of c.lease.new.pass) (seen_of c.lease.new.pass) (g.T.Tool.faults c.args.crew.now.tool) (g.T.Tool.faults c.loop.crew.tool) i.0.same.worker i.0.same.charter i.1 c.in-Stopped.ensures.leased

pub returns-in-Done-clause-runs : goal.returns-in-Done-clause-runs
returns-in-Done-clause-runs g c =
    let old = c.args.pass.now in
    let here = c.loop.pass in
    let i = c.loop.invariant in
    let asked = c.lease.ensures.asked in
    leased_runs (charter_of old) (charter_of here) (worker_of old) (worker_of here) (mine_of old) (mine_of here) (mine_of c.lease.new.pass) asked.added (g.T.Tool.runs c.args.crew.now.tool) (g.T.Tool.runs c.loop.crew.tool) i.0.same.charter i.0.same.worker i.7 asked.is

pub returns-in-Stopped-clause-runs : goal.returns-in-Stopped-clause-runs
returns-in-Stopped-clause-runs g c =
    let old = c.args.pass.now in
    let here = c.loop.pass in
    let i = c.loop.invariant in
    let asked = c.lease.ensures.asked in
    leased_runs (charter_of old) (charter_of here) (worker_of old) (worker_of here) (mine_of old) (mine_of here) (mine_of c.lease.new.pass) asked.added (g.T.Tool.runs c.args.crew.now.tool) (g.T.Tool.runs c.loop.crew.tool) i.0.same.charter i.0.same.worker i.7 asked.is
