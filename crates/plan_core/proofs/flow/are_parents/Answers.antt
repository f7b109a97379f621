use Rattle.std.proofs.Common.{◌≡◌, ◌≤◌, length, ap, arith, refl, sym, subst}
use Rattle.digraph.specs.code.Adjacency.{lists_of}
use Rattle.digraph.specs.Adjacency.{neighbours}
use Rattle.plan_core.specs.code.Numbers.{RisesFrom}
use Rattle.plan_core.specs.Words.{count_tasks}
use Rattle.plan_core.proofs.FlowLemmas.{rising_from, one_more_parents, all_parents}
use Rattle.plan_core.proofs.flow.are_parents.Goals as goal

pub own_parents-requires-clause-rises : goal.own_parents-requires-clause-rises
own_parents-requires-clause-rises c = subst (RisesFrom 0) (sym c.neighbours.ensures) (rising_from (neighbours (lists_of c.predecessors-lists.result.now) c.loop-t.t) (c.predecessors-lists.ensures.rising c.loop-t.t))

pub loop-t-preserved : goal.loop-t-preserved
loop-t-preserved c = one_more_parents c.args.plan.now c.loop-t.t (c.in_ok-right.ensures.0 c.if-not-right.false) c.loop-t.invariant

pub returns : goal.returns
returns c =
    let long : length c.as_slice-t-end.result.now ≡ count_tasks c.args.plan.now = ap length c.as_slice-t-end.ensures in
    let past : count_tasks c.args.plan.now ≤ c.loop-t.t = omega (arith, long, c.loop-t-test.false) in
    (λ h. all_parents c.args.plan.now c.loop-t.t past c.loop-t.invariant, λ all. refl)
