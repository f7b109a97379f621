use Rattle.peak_tree.specs.Node.{depth}
use Rattle.peak_tree.proofs.change.+apply.Given as goal

abbrev pub decreases-apply : goal.decreases-apply
decreases-apply g l = depth l.node.now
