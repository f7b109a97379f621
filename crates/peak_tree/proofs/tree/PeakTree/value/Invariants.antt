use Rattle.peak_tree.proofs.tree.PeakTree.value.Given as goal

abbrev pub ghosts-number_uncounted : goal.ghosts-number_uncounted
ghosts-number_uncounted a = record { name = a.blank.name; parts = a.blank.parts }
