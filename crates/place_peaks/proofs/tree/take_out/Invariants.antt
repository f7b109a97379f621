use Rattle.place_peaks.proofs.tree.take_out.Given as goal

abbrev pub ghosts-remove : goal.ghosts-remove
ghosts-remove a = record { name = a.blank.name; parts = a.blank.parts }
