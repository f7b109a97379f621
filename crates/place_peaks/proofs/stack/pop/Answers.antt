use Rattle.std.proofs.Common.{arith}
use Rattle.place_peaks.proofs.StackLemmas.{popped}
use Rattle.place_peaks.proofs.stack.pop.Goals as goal

pub returns-clause-stack : goal.returns-clause-stack
returns-clause-stack c = popped c.args.stack.now.items c.pop-popped.new.self.items c.args.task c.pop-popped.result c.pop-popped.ensures.items (λ l. c.pop-popped.ensures.variant.1 (omega (arith, l, c.args.stack.now.ok))) c.requires
