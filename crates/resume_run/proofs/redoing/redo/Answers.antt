use Rattle.std.proofs.Common.{◌∙◌, ◌+◌, ◌<◌, ap, arith, drop, get_or, refl, subst}
use Rattle.std.proofs.lemmas.List.{drop_more}
use Rattle.plan_core.specs.Words.{count_tasks, task_numbers}
use Rattle.site_yard.proofs.YardLemmas.{same_yard, still_yard}
use Rattle.worker_gate.specs.code.Calls.{AddsCalls}
use Rattle.worker_gate.specs.code.Inputs.{AddsOfInputs}
use Rattle.worker_gate.proofs.CallsLemmas.{calls_both, calls_none}
use Rattle.worker_gate.proofs.InputsLemmas.{adds_both, adds_none}
use Rattle.plan_run.specs.code.Moments.{crew_moment}
use Rattle.resume_run.specs.Lost.{lost_below}
use Rattle.resume_run.proofs.RedoingLemmas.{faults_fails, next_open, nobody, redone_all, redone_fails, redone_more, redone_none, state_of, worker_low}
use Rattle.resume_run.specs.Redoing.{AreRunsWithin}
use Rattle.resume_run.proofs.RunsLemmas.{none_ran, ran_more}
use Rattle.resume_run.proofs.TellingLemmas.{none_told, told_more}
use Rattle.resume_run.proofs.redoing.redo.Goals as goal

pub loop-one-init : goal.loop-one-init
loop-one-init g c =
    let y = c.args.yard in
    let p = y.ordered.value.plan in
    let n = g.H.Host.counts y.host in
    record {
      redone = redone_none p (task_numbers y.ordered.value.tasks.items) y.book.history.events c.args.lost.now (crew_moment g.T.Tool g.G.Gate c.args.crew.now.items) (c.requires.lost ∙ ap (λ s. lost_below s (count_tasks p)) (state_of y.book y.ordered.value y.same_plan y.same_order));
      calls = calls_none p y.book.history.events n n refl;
      inputs = adds_none g.T.Tool.apply p y.book.history.events;
      crew = refl;
      asked = refl;
      told = none_told y.book.history.events (crew_moment g.T.Tool g.G.Gate c.args.crew.now.items);
      runs = none_ran p y.book.history.events (crew_moment g.T.Tool g.G.Gate c.args.crew.now.items);
      same = still_yard y;
    }

pub redo_one-requires-clause-open : goal.redo_one-requires-clause-open
redo_one-requires-clause-open g c =
    let a = c.args.yard in
    let z = c.loop-one.yard in
    let i = c.loop-one.invariant in
    let lost = c.args.lost.now in
    let k = c.loop-one.one-index in
    next_open z.book a.ordered.value a.book.history.events lost k (get_or lost k nobody) (drop (k + 1) lost) (crew_moment g.T.Tool g.G.Gate c.args.crew.now.items) (crew_moment g.T.Tool g.G.Gate c.loop-one.crew.items) (z.same_plan ∙ ap (λ o. o.plan) i.same.ordered) (z.same_order ∙ ap (λ o. o.tasks.items) i.same.ordered) i.redone (drop_more lost k nobody c.loop-one-test.true)

pub redo_one-requires-clause-member : goal.redo_one-requires-clause-member
redo_one-requires-clause-member g c =
    let a = c.args.yard in
    let z = c.loop-one.yard in
    let i = c.loop-one.invariant in
    let lost = c.args.lost.now in
    let k = c.loop-one.one-index in
    let l = get_or lost k nobody in
    let open_ = next_open z.book a.ordered.value a.book.history.events lost k l (drop (k + 1) lost) (crew_moment g.T.Tool g.G.Gate c.args.crew.now.items) (crew_moment g.T.Tool g.G.Gate c.loop-one.crew.items) (z.same_plan ∙ ap (λ o. o.plan) i.same.ordered) (z.same_order ∙ ap (λ o. o.tasks.items) i.same.ordered) i.redone (drop_more lost k nobody c.loop-one-test.true) in
    let low : l.worker < 16 = worker_low z.book l.worker l.task.0 open_ in
    let same = i.crew in
    let many = c.requires.members in
    omega (arith, low, same, many)

pub returns-then-redo_one-clause-redoes : goal.returns-then-redo_one-clause-redoes
returns-then-redo_one-clause-redoes g c =
    let a = c.args.yard in
    let lost = c.args.lost.now in
    let k = c.loop-one.one-index in
    redone_fails a.ordered.value.plan (task_numbers a.ordered.value.tasks.items) a.book.history.events c.loop-one.yard.book.history.events c.redo_one.new.yard.book.history.events lost k (get_or lost k nobody) (drop (k + 1) lost) (crew_moment g.T.Tool g.G.Gate c.args.crew.now.items) (crew_moment g.T.Tool g.G.Gate c.loop-one.crew.items) (crew_moment g.T.Tool g.G.Gate c.redo_one.new.crew.items) c.redo_one.result c.loop-one.invariant.redone c.redo_one.ensures.redoes (drop_more lost k nobody c.loop-one-test.true) c.if-redo_one.true

pub returns-then-redo_one-clause-calls : goal.returns-then-redo_one-clause-calls
returns-then-redo_one-clause-calls g c =
    let a = c.args.yard in
    let b = c.loop-one.yard in
    let d = c.redo_one.new.yard in
    let i = c.loop-one.invariant in
    let e = c.redo_one.ensures in
    calls_both a.ordered.value.plan a.book.history.events b.book.history.events d.book.history.events (g.H.Host.counts a.host) (g.H.Host.counts b.host) (g.H.Host.counts d.host) i.calls (subst (λ p. AddsCalls p b.book.history.events d.book.history.events (g.H.Host.counts b.host) (g.H.Host.counts d.host)) (ap (λ o. o.plan) i.same.ordered) e.calls) e.same.later

pub returns-then-redo_one-clause-inputs : goal.returns-then-redo_one-clause-inputs
returns-then-redo_one-clause-inputs g c =
    let a = c.args.yard in
    let b = c.loop-one.yard in
    let d = c.redo_one.new.yard in
    let i = c.loop-one.invariant in
    adds_both g.T.Tool.apply a.ordered.value.plan a.book.history.events b.book.history.events d.book.history.events i.inputs (subst (λ p. AddsOfInputs g.T.Tool.apply p b.book.history.events d.book.history.events) (ap (λ o. o.plan) i.same.ordered) c.redo_one.ensures.inputs)

pub returns-then-redo_one-clause-tools : goal.returns-then-redo_one-clause-tools
returns-then-redo_one-clause-tools g c =
    let a = c.args.yard in
    let lost = c.args.lost.now in
    let k = c.loop-one.one-index in
    faults_fails a.ordered.value.plan (task_numbers a.ordered.value.tasks.items) a.book.history.events c.loop-one.yard.book.history.events c.redo_one.new.yard.book.history.events lost k (get_or lost k nobody) (drop (k + 1) lost) (crew_moment g.T.Tool g.G.Gate c.args.crew.now.items) (crew_moment g.T.Tool g.G.Gate c.loop-one.crew.items) (crew_moment g.T.Tool g.G.Gate c.redo_one.new.crew.items) c.redo_one.result c.loop-one.invariant.redone c.redo_one.ensures.redoes (drop_more lost k nobody c.loop-one-test.true)

pub loop-one-preserved : goal.loop-one-preserved
loop-one-preserved g c =
    let a = c.args.yard in
    let b = c.loop-one.yard in
    let d = c.redo_one.new.yard in
    let i = c.loop-one.invariant in
    let e = c.redo_one.ensures in
    let lost = c.args.lost.now in
    let k = c.loop-one.one-index in
    let old = crew_moment g.T.Tool g.G.Gate c.args.crew.now.items in
    let mid = crew_moment g.T.Tool g.G.Gate c.loop-one.crew.items in
    let new = crew_moment g.T.Tool g.G.Gate c.redo_one.new.crew.items in
    record {
      redone = redone_more a.ordered.value.plan (task_numbers a.ordered.value.tasks.items) a.book.history.events b.book.history.events d.book.history.events lost k (get_or lost k nobody) (drop (k + 1) lost) (crew_moment g.T.Tool g.G.Gate c.args.crew.now.items) (crew_moment g.T.Tool g.G.Gate c.loop-one.crew.items) (crew_moment g.T.Tool g.G.Gate c.redo_one.new.crew.items) c.redo_one.result i.redone e.redoes (drop_more lost k nobody c.loop-one-test.true) refl c.if-redo_one.false;
      calls = calls_both a.ordered.value.plan a.book.history.events b.book.history.events d.book.history.events (g.H.Host.counts a.host) (g.H.Host.counts b.host) (g.H.Host.counts d.host) i.calls (subst (λ p. AddsCalls p b.book.history.events d.book.history.events (g.H.Host.counts b.host) (g.H.Host.counts d.host)) (ap (λ o. o.plan) i.same.ordered) e.calls) e.same.later;
      inputs = adds_both g.T.Tool.apply a.ordered.value.plan a.book.history.events b.book.history.events d.book.history.events i.inputs (subst (λ p. AddsOfInputs g.T.Tool.apply p b.book.history.events d.book.history.events) (ap (λ o. o.plan) i.same.ordered) e.inputs);
      crew = e.crew ∙ i.crew;
      asked = e.asked ∙ i.asked;
      told = told_more a.book.history.events b.book.history.events d.book.history.events (crew_moment g.T.Tool g.G.Gate c.args.crew.now.items) (crew_moment g.T.Tool g.G.Gate c.loop-one.crew.items) (crew_moment g.T.Tool g.G.Gate c.redo_one.new.crew.items) i.told e.told;
      runs = ran_more a.ordered.value.plan a.book.history.events b.book.history.events d.book.history.events old mid new i.runs (subst (λ p. AreRunsWithin p b.book.history.events d.book.history.events mid new) (ap (λ o. o.plan) i.same.ordered) e.runs);
      same = same_yard a b d i.same e.same;
    }

pub returns-clause-redoes : goal.returns-clause-redoes
returns-clause-redoes g c =
    let a = c.args.yard in
    let b = c.loop-one.yard in
    let i = c.loop-one.invariant in
    redone_all b.book a.ordered.value a.book.history.events c.args.lost.now c.loop-one.one-index (crew_moment g.T.Tool g.G.Gate c.args.crew.now.items) (crew_moment g.T.Tool g.G.Gate c.loop-one.crew.items) (b.same_plan ∙ ap (λ o. o.plan) i.same.ordered) (b.same_order ∙ ap (λ o. o.tasks.items) i.same.ordered) c.loop-one-test.false i.redone

pub returns-then-redo_one-clause-told : goal.returns-then-redo_one-clause-told
returns-then-redo_one-clause-told g c = told_more c.args.yard.book.history.events c.loop-one.yard.book.history.events c.redo_one.new.yard.book.history.events (crew_moment g.T.Tool g.G.Gate c.args.crew.now.items) (crew_moment g.T.Tool g.G.Gate c.loop-one.crew.items) (crew_moment g.T.Tool g.G.Gate c.redo_one.new.crew.items) c.loop-one.invariant.told c.redo_one.ensures.told

pub returns-then-redo_one-clause-runs : goal.returns-then-redo_one-clause-runs
returns-then-redo_one-clause-runs g c =
    let a = c.args.yard in
    let b = c.loop-one.yard in
    let d = c.redo_one.new.yard in
    let i = c.loop-one.invariant in
    let old = crew_moment g.T.Tool g.G.Gate c.args.crew.now.items in
    let mid = crew_moment g.T.Tool g.G.Gate c.loop-one.crew.items in
    let new = crew_moment g.T.Tool g.G.Gate c.redo_one.new.crew.items in
    ran_more a.ordered.value.plan a.book.history.events b.book.history.events d.book.history.events old mid new i.runs (subst (λ p. AreRunsWithin p b.book.history.events d.book.history.events mid new) (ap (λ o. o.plan) i.same.ordered) c.redo_one.ensures.runs)
