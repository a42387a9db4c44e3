use Rattle.subtypep_app.proofs.tests.generated.rows_of_session.Given as goal

abbrev pub ghosts-rows_by : goal.ghosts-rows_by
ghosts-rows_by a = record { name = a.blank.name; parts = a.blank.parts }
