use Rattle.std.proofs.Common.{All, arith, subst, sym}
use Rattle.std.proofs.lemmas.List.Elements.{All-push}
use Rattle.transfer_refiner.specs.code.Steps.{IsListed}
use Rattle.transfer_refiner.proofs.ListedLemmas.{kinds_more}
use Rattle.transfer_refiner.proofs.tasks.tasks_at.Goals as goal

pub loop-kind-preserved : goal.loop-kind-preserved
loop-kind-preserved c = record {
  kinds = kinds_more c.args.given.now c.loop-kind.kind-index c.kind-item.result c.loop-kind.tasks.items c.push.new.self.items c.in_ok-task_of.field-0 (omega arith) c.kind-item.is c.loop-kind.invariant.kinds c.in_ok-task_of.ensures.kind c.in_ok-push.ensures.items;
  listed = subst (All (IsListed c.args.jobs.now c.args.places.now)) (sym c.in_ok-push.ensures.items) (All-push (IsListed c.args.jobs.now c.args.places.now) c.loop-kind.tasks.items c.in_ok-task_of.field-0 c.loop-kind.invariant.listed c.in_ok-task_of.ensures.listed);
}
