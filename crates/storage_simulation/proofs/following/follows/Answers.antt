use Rattle.std.proofs.Common.{◌<◌, ◌≤◌, length, refl, sym, ◌∙◌, arith}
use Rattle.plan_core.specs.Words.{task_numbers}
use Rattle.storage_simulation.specs.code.Standings.{phase_of}
use Rattle.storage_simulation.proofs.NumbersLemmas.{count_tasks_in}
use Rattle.storage_simulation.proofs.FollowingLemmas.{follows_of, follow_at}
use Rattle.storage_simulation.proofs.following.follows.Goals as goal

pub returns-then-not-comes_next : goal.returns-then-not-comes_next
returns-then-not-comes_next c =
    let count = count_tasks_in c.args.order.now in
    let below : c.loop-k.k < length (task_numbers c.args.order.now) = omega (arith, count) in
    (λ h. absurd cc, λ f. sym c.if-not-comes_next.true ∙ c.comes_next.ensures.value ∙ follow_at c.args.plan.now (phase_of c.args.standing.now) (task_numbers c.args.order.now) c.loop-k.k below f)

pub returns : goal.returns
returns c =
    let count = count_tasks_in c.args.order.now in
    let past : length (task_numbers c.args.order.now) ≤ c.loop-k.k = omega (arith, count) in
    (λ h. follows_of c.args.plan.now (phase_of c.args.standing.now) (task_numbers c.args.order.now) (λ k l. c.loop-k.invariant.2 k (omega (arith, l, past))), λ f. refl)
