use Rattle.std.proofs.Common.{◌≡◌, length, map}
use Rattle.craft.specs.declared.crew.Crew.{Crew}
use Rattle.plan_core.specs.Words.{task_numbers}
use Rattle.site_yard.specs.code.Yard.{IsSameYard}
use Rattle.worker_gate.specs.code.Calls.{AddsCalls}
use Rattle.worker_gate.specs.code.Inputs.{AddsOfInputs}
use Rattle.plan_run.specs.code.Moments.{crew_moment}
use Rattle.resume_run.specs.Redoing.{AreRunsWithin, AreToldOf}
use Rattle.resume_run.proofs.RedoingLemmas.{HasRedone}
use Rattle.resume_run.proofs.redoing.redo.Given as goal

abbrev pub invariant-loop-one : goal.invariant-loop-one
invariant-loop-one g l = record {
  redone : HasRedone l.fn.yard.ordered.value.plan (task_numbers l.fn.yard.ordered.value.tasks.items) l.fn.yard.book.history.events l.yard.book.history.events l.lost l.one-index (crew_moment g.T.Tool g.G.Gate l.initial.crew.items) (crew_moment g.T.Tool g.G.Gate l.crew.items);
  calls : AddsCalls l.fn.yard.ordered.value.plan l.fn.yard.book.history.events l.yard.book.history.events (g.H.Host.counts l.fn.yard.host) (g.H.Host.counts l.yard.host);
  inputs : AddsOfInputs g.T.Tool.apply l.fn.yard.ordered.value.plan l.fn.yard.book.history.events l.yard.book.history.events;
  crew : length l.crew.items ≡ length l.initial.crew.items;
  asked : map (λ (c : Crew g.row.T.Denot g.row.G.Denot). g.G.Gate.asked c.gate) l.crew.items ≡ map (λ (c : Crew g.row.T.Denot g.row.G.Denot). g.G.Gate.asked c.gate) l.initial.crew.items;
  told : AreToldOf l.fn.yard.book.history.events l.yard.book.history.events (crew_moment g.T.Tool g.G.Gate l.initial.crew.items) (crew_moment g.T.Tool g.G.Gate l.crew.items);
  runs : AreRunsWithin l.fn.yard.ordered.value.plan l.fn.yard.book.history.events l.yard.book.history.events (crew_moment g.T.Tool g.G.Gate l.initial.crew.items) (crew_moment g.T.Tool g.G.Gate l.crew.items);
  same : IsSameYard l.fn.yard l.yard;
}
