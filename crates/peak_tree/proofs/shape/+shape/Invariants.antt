use Rattle.peak_tree.proofs.shape.+shape.Given as goal

abbrev pub decreases-shape : goal.decreases-shape
decreases-shape l = l.count
