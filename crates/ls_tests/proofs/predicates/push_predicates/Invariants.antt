use Rattle.ls_tests.proofs.predicates.push_predicates.Given as goal

abbrev pub ghosts-ask_pairs : goal.ghosts-ask_pairs
ghosts-ask_pairs a = record { name = a.blank.name; parts = a.blank.parts }
