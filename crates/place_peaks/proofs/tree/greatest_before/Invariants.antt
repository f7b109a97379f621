use Rattle.place_peaks.proofs.tree.greatest_before.Given as goal

abbrev pub ghosts-greatest : goal.ghosts-greatest
ghosts-greatest a = record { name = a.blank.name; parts = a.blank.parts }
