use Rattle.std.proofs.Common.{◌≡◌, ◌≤◌}
use Rattle.lease_book.specs.Book.{state_at}
use Rattle.lease_rules.specs.code.Room.{entries_room}
use Rattle.site_yard.specs.code.Yard.{IsSameYard}
use Rattle.worker_gate.specs.code.Calls.{AddsCalls}
use Rattle.worker_gate.specs.code.Inputs.{AddsOfInputs}
use Rattle.worker_gate.specs.code.Runs.{RunsWithin}
use Rattle.worker_gate.specs.code.Stepping.{WorksOn}
use Rattle.worker_gate.specs.code.Telling.{IsToldOf}
use Rattle.worker_gate.proofs.alone.run_alone.Given as goal

abbrev pub invariant-loop-alloc : goal.invariant-loop-alloc
invariant-loop-alloc g l =
    WorksOn l.fn.yard.book.plan (state_at l.fn.yard.book) l.fn.yard.book.history.events l.yard.book.history.events (state_at l.yard.book) (g.T.Tool.faults l.initial.crew.tool) (g.T.Tool.faults l.crew.tool)
    × (g.T.Tool.faults l.initial.crew.tool ≤ g.T.Tool.faults l.crew.tool)
    × IsSameYard l.fn.yard l.yard
    × AddsOfInputs g.T.Tool.apply l.fn.yard.ordered.value.plan l.fn.yard.book.history.events l.yard.book.history.events
    × (g.G.Gate.asked l.crew.gate ≡ g.G.Gate.asked l.initial.crew.gate)
    × AddsCalls l.fn.yard.ordered.value.plan l.fn.yard.book.history.events l.yard.book.history.events (g.H.Host.counts l.fn.yard.host) (g.H.Host.counts l.yard.host)
    × IsToldOf 0 l.fn.yard.book.history.events l.yard.book.history.events (g.G.Gate.told l.initial.crew.gate) (g.G.Gate.told l.crew.gate)
    × RunsWithin l.fn.yard.ordered.value.plan 0 l.fn.yard.book.history.events l.yard.book.history.events (g.T.Tool.runs l.initial.crew.tool) (g.T.Tool.runs l.crew.tool)

abbrev pub decreases-loop-alloc : goal.decreases-loop-alloc
decreases-loop-alloc g l = entries_room l.yard.book.plan (state_at l.yard.book)
