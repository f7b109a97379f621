use Rattle.plan_core.proofs.CheckingLemmas.{fails, proper_decided}
use Rattle.plan_core.proofs.checking.check.Goals as goal

pub returns-then-not-tables : goal.returns-then-not-tables
returns-then-not-tables c = fails c.in_ok-tables.tables c.in_ok-tables.ensures (λ h. h.tables) c.if-not-tables.true

pub returns-then-not-tasks : goal.returns-then-not-tasks
returns-then-not-tasks c = fails c.in_ok-tasks.tasks c.in_ok-tasks.ensures (λ h. h.tasks) c.if-not-tasks.true

pub returns : goal.returns
returns c = proper_decided c.args.plan.now c.in_ok-flow.flow (c.in_ok-tables.ensures.0 c.if-not-tables.false) (c.in_ok-tasks.ensures.0 c.if-not-tasks.false) c.in_ok-flow.ensures
