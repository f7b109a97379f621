use Rattle.std.proofs.Common.{ℕ}
use Rattle.digraph.specs.code.Digraph.{edge}
use Rattle.transfer_refiner.proofs.ParentsLemmas.{parented_more}
use Rattle.transfer_refiner.proofs.waiting.with_parents.Goals as goal

pub loop-t-preserved : goal.loop-t-preserved
loop-t-preserved c = parented_more (λ (t u : ℕ). edge c.args.stated.now u t) c.args.tasks.now c.loop-t.done.items c.push.new.self.items c.loop-t.t c.in_ok-with_its_parents.field-0 c.loop-t.invariant c.in_ok-with_its_parents.ensures.same c.in_ok-with_its_parents.ensures.parents c.in_ok-push.ensures.items
