use Rattle.std.proofs.Common.{sym, ◌∙◌}
use Rattle.storage_simulation.specs.code.Front.{front_of}
use Rattle.storage_simulation.specs.code.Ordering.{progress}
use Rattle.storage_simulation.specs.Ordering.{size}
use Rattle.storage_simulation.proofs.PlacingLemmas.{change_there, no_change}
use Rattle.storage_simulation.proofs.placing.change_of.Goals as goal

pub returns-in-Some : goal.returns-in-Some
returns-in-Some c =
    let at = sym c.place_of.ensures ∙ c.in-Some.is in
    (c.requires.set.orderable.place_below c.args.task.0 c.in-Some.place at, c.used_after.ensures, change_there c.args.plan.now (size (progress c.args.standing.now)) (front_of c.args.front.now) c.args.task.0 c.in-Some.place c.requires.set.orderable at)

pub returns-in-None : goal.returns-in-None
returns-in-None c = no_change c.args.plan.now (size (progress c.args.standing.now)) (front_of c.args.front.now) c.args.task.0 c.requires.set.orderable (sym c.place_of.ensures ∙ c.in-None.is)
