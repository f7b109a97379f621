use Rattle.std.proofs.Common.{◌≡◌, sym, ◌∙◌, arith}
use Rattle.storage_simulation.specs.code.Front.{front_of, missing}
use Rattle.storage_simulation.specs.code.Ordering.{progress}
use Rattle.storage_simulation.proofs.RefreshingLemmas.{touched_last, touched_none, touched_ready}
use Rattle.storage_simulation.proofs.refreshing.touch.Goals as goal

pub returns-then-missing-eq0-clause-told : goal.returns-then-missing-eq0-clause-told
returns-then-missing-eq0-clause-told c =
    let none : missing c.args.plan.now (progress c.args.standing.now) (front_of c.args.front.now) c.args.task ≡ 0 = sym (c.requires.set.front.missing_is c.args.task c.requires.in_range) ∙ sym c.missing-missing.ensures ∙ (let e = c.if-missing-eq0.true in omega (arith, e)) in
    touched_ready c.args.plan.now (progress c.args.standing.now) (front_of c.args.front.now) c.args.index.now c.set_key.new.index c.args.task c.set_key.ensures.told none

pub returns-then-missing-eq1-clause-told : goal.returns-then-missing-eq1-clause-told
returns-then-missing-eq1-clause-told c =
    let one : missing c.args.plan.now (progress c.args.standing.now) (front_of c.args.front.now) c.args.task ≡ 1 = sym (c.requires.set.front.missing_is c.args.task c.requires.in_range) ∙ sym c.missing-missing.ensures ∙ (let e = c.if-missing-eq1.true in omega (arith, e)) in
    touched_last c.args.plan.now (progress c.args.standing.now) (front_of c.args.front.now) c.args.index.now c.set_key-then-missing-eq1.new.index c.args.task c.last_parent-last.result c.set_key-then-missing-eq1.ensures.told one c.last_parent-last.ensures

pub returns-else-missing-eq1-clause-told : goal.returns-else-missing-eq1-clause-told
returns-else-missing-eq1-clause-told c =
    let is : missing c.args.plan.now (progress c.args.standing.now) (front_of c.args.front.now) c.args.task ≡ c.missing-missing.result = sym (c.requires.set.front.missing_is c.args.task c.requires.in_range) ∙ sym c.missing-missing.ensures in
    touched_none c.args.plan.now (progress c.args.standing.now) (front_of c.args.front.now) c.args.index.now c.args.task
    (λ none. let e = c.if-missing-eq0.false in omega (arith, e, is, none)) (λ one. let e = c.if-missing-eq1.false in omega (arith, e, is, one))
