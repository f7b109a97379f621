use Rattle.std.proofs.Common.{length, ap, arith}
use Rattle.storage_simulation.specs.code.Front.{front_of}
use Rattle.storage_simulation.specs.code.Ordering.{progress}
use Rattle.storage_simulation.proofs.DeterminedLemmas.{step_opens}
use Rattle.storage_simulation.proofs.CountingLemmas.{left, left_most, left_less, left_none}
use Rattle.storage_simulation.proofs.ordering.fill.Goals as goal

pub loop-step-init : goal.loop-step-init
loop-step-init c = (c.requires.set, c.requires.index, let most = left_most c.args.plan.now (progress c.args.standing.now) (front_of c.args.front.now) in omega (arith, most))

pub loop-step-preserved : goal.loop-step-preserved
loop-step-preserved c =
    let opens = step_opens c.args.plan.now (progress c.args.standing.now) (front_of c.loop-step.front) c.in-Place.task.0 c.in-Place.ensures in
    let less = left_less c.args.plan.now (progress c.args.standing.now) (front_of c.loop-step.front) c.in-Place.task.0 opens in
    let same = ap (left c.args.plan.now (progress c.args.standing.now)) c.advance.ensures.placed in
    (c.advance.ensures.set, c.advance.ensures.index, omega (arith, less, same, c.loop-step.invariant.2))

pub returns-in-Done-clause-order : goal.returns-in-Done-clause-order
returns-in-Done-clause-order c = record {
  steps = c.loop-step.invariant.0.front.steps;
  all = c.some_task_is_next.ensures c.args.plan.now (progress c.args.standing.now) (front_of c.loop-step.front) c.requires.proper c.in-Done.ensures;
}

pub returns-in-Stuck-clause-exceeds : goal.returns-in-Stuck-clause-exceeds
returns-in-Stuck-clause-exceeds c = record { front = front_of c.loop-step.front; steps = c.loop-step.invariant.0.front.steps; stuck = c.in-Stuck.ensures }

pub returns-clause-order : goal.returns-clause-order
returns-clause-order c = record {
  steps = c.loop-step.invariant.0.front.steps;
  all = λ t l. left_none c.args.plan.now (progress c.args.standing.now) (front_of c.loop-step.front) t (let n = ap length c.as_slice-step-end.ensures in omega (arith, n, c.loop-step.invariant.2, c.loop-step-test.false)) l;
}
