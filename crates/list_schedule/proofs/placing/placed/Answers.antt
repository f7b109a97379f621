use Rattle.std.proofs.Common.{List, sym, subst}
use Rattle.values.specs.declared.numbers.JobId.{JobId}
use Rattle.dependency_graph.specs.Graph.{numbers}
use Rattle.list_schedule.specs.Ranks.{IsRankOrder}
use Rattle.list_schedule.specs.Schedule.{IsHeft}
use Rattle.list_schedule.specs.code.Board.{schedule_at}
use Rattle.list_schedule.proofs.WalkLemmas.{heft_is}
use Rattle.list_schedule.proofs.placing.placed.Goals as goal

pub returns : goal.returns
returns c = λ e ranks costs offers are sorted.
    let walk = subst (λ (js : List JobId). IsRankOrder c.args.kept.now ranks (numbers js)) (sym c.as_slice.ensures.value) sorted in
    subst (λ (js : List JobId). IsHeft c.args.graph.now c.args.kept.now e (schedule_at c.place_all.new.board js)) c.as_slice.ensures.value
    (heft_is c.args.graph.now c.args.kept.now e ranks c.place_all.new.board c.as_slice.result.now are walk c.place_all.ensures.long (c.place_all.ensures.placed e ranks costs offers are walk) c.place_all.ensures.others)
