use Rattle.std.proofs.Common.{sym, ◌∙◌}
use Rattle.storage_simulation.specs.code.Front.{front_of}
use Rattle.storage_simulation.specs.code.Ordering.{progress}
use Rattle.storage_simulation.proofs.RoomLemmas.{fits_nowhere}
use Rattle.storage_simulation.proofs.choosing.refusal.Goals as goal

pub returns-in-None-place_of : goal.returns-in-None-place_of
returns-in-None-place_of c =
    let opens = c.in-Some.ensures.0 in
    absurd (c.requires.none_fits c.in-Some.task.0 opens (fits_nowhere c.args.plan.now (progress c.args.standing.now) (front_of c.args.front.now) c.in-Some.task.0 c.requires.set.orderable c.requires.set.front.within (sym c.place_of.ensures ∙ c.in-None-place_of.is)))
