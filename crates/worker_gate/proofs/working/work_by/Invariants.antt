use Rattle.std.proofs.Common.{◌≤◌}
use Rattle.std.specs.Prelude.{IfSome}
use Rattle.ruled_lock.specs.Pass.{charter_of, mine_of, seen_of, worker_of}
use Rattle.worker_gate.specs.code.Asking.{AsksOwn}
use Rattle.worker_gate.specs.code.Inputs.{AddsOfInputs}
use Rattle.worker_gate.specs.code.Runs.{OwnRunsWithin}
use Rattle.worker_gate.specs.code.Telling.{IsToldOf}
use Rattle.worker_gate.specs.code.Turning.{IsPlanOf, KeepsTurn, plan_of}
use Rattle.worker_gate.specs.code.Working.{WorksOwn}
use Rattle.worker_gate.proofs.working.work_by.Given as goal

abbrev pub invariant-loop : goal.invariant-loop
invariant-loop g l =
    KeepsTurn l.lock l.fn.pass l.pass
    × WorksOwn (worker_of l.fn.pass) (mine_of l.fn.pass) (mine_of l.pass) (g.T.Tool.faults l.fn.crew.tool) (g.T.Tool.faults l.crew.tool)
    × (g.T.Tool.faults l.fn.crew.tool ≤ g.T.Tool.faults l.crew.tool)
    × IsPlanOf (charter_of l.fn.pass) l.plan
    × IfSome (charter_of l.fn.pass) (λ c. AddsOfInputs g.T.Tool.apply (plan_of c) (mine_of l.fn.pass) (mine_of l.pass))
    × AsksOwn (mine_of l.fn.pass) (mine_of l.pass) (g.G.Gate.asked l.fn.crew.gate) (g.G.Gate.asked l.crew.gate)
    × IsToldOf (worker_of l.fn.pass) (seen_of l.fn.pass) (seen_of l.pass) (g.G.Gate.told l.fn.crew.gate) (g.G.Gate.told l.crew.gate)
    × OwnRunsWithin (charter_of l.fn.pass) (worker_of l.fn.pass) (mine_of l.fn.pass) (mine_of l.pass) (g.T.Tool.runs l.fn.crew.tool) (g.T.Tool.runs l.crew.tool)
