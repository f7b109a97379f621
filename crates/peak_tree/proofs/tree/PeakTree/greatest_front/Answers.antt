use Rattle.std.proofs.Common.{◌-◌, ap, length, arith}
use Rattle.peak_tree.proofs.TreeLemmas.{few_on_the_way}
use Rattle.peak_tree.proofs.tree.PeakTree.greatest_front.Goals as goal

pub returns-else-count-eq0-clause-few : goal.returns-else-count-eq0-clause-few
returns-else-count-eq0-clause-few g c d long =
    few_on_the_way c.self.inside (c.args.count - 1) d c.args.steps.now c.greatest_up_to.new.steps c.self.invariant (omega (arith, long, ap length c.self.view_is)) c.greatest_up_to.ensures.steps
