use Rattle.std.proofs.Common.{sym, ◌∙◌}
use Rattle.storage_simulation.specs.code.Front.{front_of}
use Rattle.storage_simulation.specs.code.Ordering.{progress}
use Rattle.storage_simulation.proofs.RefreshingLemmas.{own_one, own_two}
use Rattle.storage_simulation.proofs.refreshing.set_own.Goals as goal

pub returns-in-Some-clause-bests : goal.returns-in-Some-clause-bests
returns-in-Some-clause-bests c = own_two c.args.plan.now (progress c.args.standing.now) (front_of c.args.front.now) c.args.index.now c.set_best.new.index c.set_best-in-Some.new.index c.args.task c.home_of.result c.in-Some.place c.home_of.ensures (sym c.place_of.ensures ∙ c.in-Some.is) c.set_best.ensures.here c.set_best.ensures.others c.set_best-in-Some.ensures.here c.set_best-in-Some.ensures.others

pub returns-in-None-clause-bests : goal.returns-in-None-clause-bests
returns-in-None-clause-bests c = own_one c.args.plan.now (progress c.args.standing.now) (front_of c.args.front.now) c.args.index.now c.set_best.new.index c.args.task c.home_of.result c.home_of.ensures (sym c.place_of.ensures ∙ c.in-None.is) c.set_best.ensures.here c.set_best.ensures.others
