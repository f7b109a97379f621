use Rattle.std.proofs.Common.{◌≡◌, sym, ◌∙◌, arith}
use Rattle.storage_simulation.specs.code.Front.{front_of, missing}
use Rattle.storage_simulation.specs.code.Ordering.{progress}
use Rattle.storage_simulation.proofs.RefreshingLemmas.{settled_last, settled_ready}
use Rattle.storage_simulation.proofs.refreshing.settle.Goals as goal

pub returns-then-missing-eq0-clause-bests : goal.returns-then-missing-eq0-clause-bests
returns-then-missing-eq0-clause-bests c =
    let none : missing c.args.plan.now (progress c.args.standing.now) (front_of c.args.front.now) c.args.task ≡ 0 = sym (c.requires.set.front.missing_is c.args.task c.requires.in_range) ∙ sym c.missing-missing.ensures ∙ (let e = c.if-missing-eq0.true in omega (arith, e)) in
    settled_ready c.args.plan.now (progress c.args.standing.now) (front_of c.args.front.now) c.args.index.now c.set_best.new.index c.args.task c.home_of.result c.home_of.ensures c.set_best.ensures.here c.set_best.ensures.others none

pub returns-then-missing-eq1-clause-bests : goal.returns-then-missing-eq1-clause-bests
returns-then-missing-eq1-clause-bests c =
    let one : missing c.args.plan.now (progress c.args.standing.now) (front_of c.args.front.now) c.args.task ≡ 1 = sym (c.requires.set.front.missing_is c.args.task c.requires.in_range) ∙ sym c.missing-missing.ensures ∙ (let e = c.if-missing-eq1.true in omega (arith, e)) in
    settled_last c.args.plan.now (progress c.args.standing.now) (front_of c.args.front.now) c.args.index.now c.set_best-then-missing-eq1.new.index c.args.task c.last_parent-last.result c.home_of-then-missing-eq1.result c.home_of-then-missing-eq1.ensures c.set_best-then-missing-eq1.ensures.here c.set_best-then-missing-eq1.ensures.others one c.last_parent-last.ensures
