use Rattle.integration_tests.proofs.peaks.a_tree_is_a_list.Given as goal

abbrev pub ghosts-all_calls : goal.ghosts-all_calls
ghosts-all_calls g a = record { name = a.blank.name; parts = a.blank.parts }
