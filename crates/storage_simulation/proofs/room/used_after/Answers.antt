use Rattle.std.proofs.Common.{◌++◌, ◌∷◌, [], arith}
use Rattle.storage_simulation.specs.code.Front.{front_of}
use Rattle.storage_simulation.specs.code.Ordering.{progress}
use Rattle.storage_simulation.specs.Ordering.{size}
use Rattle.storage_simulation.proofs.ChangeLemmas.{usage_small}
use Rattle.storage_simulation.proofs.RoomLemmas.{cleaning_next, making_next}
use Rattle.storage_simulation.proofs.room.used_after.Goals as goal

pub overflow_sub-result : goal.overflow_sub-result
overflow_sub-result c =
    let is = cleaning_next c.args.plan.now (progress c.args.standing.now) (front_of c.args.front.now) c.args.task.0 c.args.place c.in-Some.good c.requires.set.orderable.keeps c.requires.set.front.steps c.requires.opens c.requires.place c.in-Some.ensures in
    omega (arith, is, c.cleaned_at.ensures, c.used-before.ensures, c.requires.set.front.used_is c.args.place c.requires.place)

pub after_making-requires-clause-enough : goal.after_making-requires-clause-enough
after_making-requires-clause-enough c =
    let is = making_next c.args.plan.now (progress c.args.standing.now) (front_of c.args.front.now) c.args.task.0 c.args.place c.requires.set.orderable.keeps c.requires.set.front.steps c.requires.opens c.requires.place c.in-None.ensures in
    omega (arith, is.1, c.used-before.ensures, c.requires.set.front.used_is c.args.place c.requires.place)

pub after_making-requires-clause-held : goal.after_making-requires-clause-held
after_making-requires-clause-held c =
    let small = usage_small c.args.plan.now (size (progress c.args.standing.now)) (front_of c.args.front.now) c.args.place c.requires.set.limits c.requires.set.standing.small in
    omega (arith, small, c.used-before.ensures, c.requires.set.front.used_is c.args.place c.requires.place)

pub after_making-requires-clause-few : goal.after_making-requires-clause-few
after_making-requires-clause-few c =
    let is = making_next c.args.plan.now (progress c.args.standing.now) (front_of c.args.front.now) c.args.task.0 c.args.place c.requires.set.orderable.keeps c.requires.set.front.steps c.requires.opens c.requires.place c.in-None.ensures in
    let small = usage_small c.args.plan.now (size (progress c.args.standing.now)) (front_of c.args.front.now ++ c.args.task.0 ∷ []) c.args.place c.requires.set.limits c.requires.set.standing.small in
    omega (arith, is.2, small)

pub returns-in-Some : goal.returns-in-Some
returns-in-Some c =
    let is = cleaning_next c.args.plan.now (progress c.args.standing.now) (front_of c.args.front.now) c.args.task.0 c.args.place c.in-Some.good c.requires.set.orderable.keeps c.requires.set.front.steps c.requires.opens c.requires.place c.in-Some.ensures in
    omega (arith, is, c.cleaned_at.ensures, c.used-before.ensures, c.requires.set.front.used_is c.args.place c.requires.place)

pub returns-in-None : goal.returns-in-None
returns-in-None c =
    let is = making_next c.args.plan.now (progress c.args.standing.now) (front_of c.args.front.now) c.args.task.0 c.args.place c.requires.set.orderable.keeps c.requires.set.front.steps c.requires.opens c.requires.place c.in-None.ensures in
    omega (arith, is.0, c.after_making.ensures, c.used-before.ensures, c.requires.set.front.used_is c.args.place c.requires.place)
