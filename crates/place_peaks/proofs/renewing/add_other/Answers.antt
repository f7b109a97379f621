use Rattle.std.proofs.Common.{arith}
use Rattle.place_peaks.proofs.RenewingLemmas.{added_none, added_one}
use Rattle.place_peaks.proofs.renewing.add_other.Goals as goal

pub returns-then-left-task-clause-items : goal.returns-then-left-task-clause-items
returns-then-left-task-clause-items c = added_none c.args.left.now c.args.line.now.items c.args.task c.if-left-task.true

pub push_reserved-requires : goal.push_reserved-requires
push_reserved-requires c = let l = c.requires.room c.if-left-task.false in omega (arith, l, c.args.line.now.ok)

pub returns-clause-items : goal.returns-clause-items
returns-clause-items c = added_one c.args.left.now c.args.line.now.items c.push_reserved.new.self.items c.args.task c.if-left-task.false c.push_reserved.ensures.items
