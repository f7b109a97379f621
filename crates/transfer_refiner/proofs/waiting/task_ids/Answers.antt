use Rattle.std.proofs.Common.{refl}
use Rattle.values.specs.declared.numbers.TaskId.{TaskId}
use Rattle.transfer_refiner.proofs.PushLemmas.{seen_pushed}
use Rattle.transfer_refiner.proofs.waiting.task_ids.Goals as goal

pub loop-number-preserved : goal.loop-number-preserved
loop-number-preserved c = seen_pushed (λ (t : TaskId). t.0) c.args.numbers.now c.loop-number.number-index 0 c.loop-number.ids.items c.push.new.self.items _ c.loop-number-test.true refl c.loop-number.invariant c.in_ok-push.ensures.items
