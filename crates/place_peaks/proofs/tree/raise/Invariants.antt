use Rattle.place_peaks.proofs.tree.raise.Given as goal

abbrev pub ghosts-add : goal.ghosts-add
ghosts-add a = record { name = a.blank.name; parts = a.blank.parts }
