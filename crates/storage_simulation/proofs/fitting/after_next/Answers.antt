use Rattle.std.proofs.Common.{◌+◌, take, arith}
use Rattle.values.specs.declared.numbers.TaskId.{TaskId}
use Rattle.plan_core.specs.Words.{task_numbers}
use Rattle.storage_simulation.specs.code.Standings.{held_of, phase_of}
use Rattle.storage_simulation.specs.Standings.{sizes}
use Rattle.storage_simulation.proofs.ChangeLemmas.{cleaning_at, making_at, usage_small}
use Rattle.storage_simulation.proofs.fitting.after_next.Goals as goal

none : TaskId
none = record { 0 = 0 }

pub overflow_sub-result : goal.overflow_sub-result
unfolding none
overflow_sub-result c =
    let is = cleaning_at c.args.plan.now (phase_of c.args.standing.now) (sizes (held_of c.args.standing.now)) c.args.order.now c.args.k c.args.place c.in-Some.good none c.requires.goods c.requires.follows c.requires.within c.requires.place c.in-Some.ensures in
    omega (arith, is, c.cleaned_at.ensures, c.requires.before)

pub after_making-requires-clause-enough : goal.after_making-requires-clause-enough
unfolding none
after_making-requires-clause-enough c =
    let is = making_at c.args.plan.now (phase_of c.args.standing.now) (sizes (held_of c.args.standing.now)) c.args.order.now c.args.k c.args.place none c.requires.goods c.requires.follows c.requires.within c.requires.place c.in-None.ensures in
    omega (arith, is.1, c.requires.before)

pub after_making-requires-clause-held : goal.after_making-requires-clause-held
after_making-requires-clause-held c =
    let small = usage_small c.args.plan.now (sizes (held_of c.args.standing.now)) (take c.args.k (task_numbers c.args.order.now)) c.args.place c.requires.limits c.requires.standing.small in
    omega (arith, small, c.requires.before)

pub after_making-requires-clause-few : goal.after_making-requires-clause-few
unfolding none
after_making-requires-clause-few c =
    let is = making_at c.args.plan.now (phase_of c.args.standing.now) (sizes (held_of c.args.standing.now)) c.args.order.now c.args.k c.args.place none c.requires.goods c.requires.follows c.requires.within c.requires.place c.in-None.ensures in
    let small = usage_small c.args.plan.now (sizes (held_of c.args.standing.now)) (take (c.args.k + 1) (task_numbers c.args.order.now)) c.args.place c.requires.limits c.requires.standing.small in
    omega (arith, is.2, small)

pub returns-in-Some : goal.returns-in-Some
unfolding none
returns-in-Some c =
    let is = cleaning_at c.args.plan.now (phase_of c.args.standing.now) (sizes (held_of c.args.standing.now)) c.args.order.now c.args.k c.args.place c.in-Some.good none c.requires.goods c.requires.follows c.requires.within c.requires.place c.in-Some.ensures in
    omega (arith, is, c.cleaned_at.ensures, c.requires.before)

pub returns-in-None : goal.returns-in-None
unfolding none
returns-in-None c =
    let is = making_at c.args.plan.now (phase_of c.args.standing.now) (sizes (held_of c.args.standing.now)) c.args.order.now c.args.k c.args.place none c.requires.goods c.requires.follows c.requires.within c.requires.place c.in-None.ensures in
    omega (arith, is.0, c.after_making.ensures, c.requires.before)
