use Rattle.peak_tree.proofs.tree.PeakTree.of.Given as goal

abbrev pub ghosts-fill_uncounted : goal.ghosts-fill_uncounted
ghosts-fill_uncounted a = record { name = a.blank.name; parts = a.blank.parts }
