use Rattle.std.proofs.Common.{◌∙◌, refl, arith}
use Rattle.place_peaks.proofs.RenewingLemmas.{others_end, others_first, others_more, others_room}
use Rattle.place_peaks.proofs.renewing.add_others.Goals as goal

pub loop-task-init : goal.loop-task-init
loop-task-init c = (others_first c.args.left.now c.args.line.now.items, refl)

pub add_other-requires-clause-room : goal.add_other-requires-clause-room
add_other-requires-clause-room c = λ off. others_room c.args.left.now c.args.line.now.items c.loop-task.line.items c.loop-task.task _ _ c.loop-task-test.true off c.loop-task.invariant.0 c.requires.room c.loop-task.invariant.1

pub loop-task-preserved : goal.loop-task-preserved
loop-task-preserved c = (others_more c.args.left.now c.args.line.now.items c.loop-task.line.items c.add_other.new.line.items c.loop-task.task c.loop-task.invariant.0 c.add_other.ensures.items, c.add_other.ensures.room ∙ c.loop-task.invariant.1)

pub returns : goal.returns
returns c = others_end c.args.left.now c.args.line.now.items c.loop-task.line.items c.loop-task.task (omega arith) c.loop-task.invariant.0
