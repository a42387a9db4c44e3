use Rattle.ls_decide.proofs.MeaningLemmas.{Decides-same_plain, marks_meant, plain_marked, marked_object}
use Rattle.ls_decide.proofs.laws.marks_are_meant.Goals as goal

pub returns-clause-test : goal.returns-clause-test
returns-clause-test c = Decides-same_plain

pub returns-clause-marks : goal.returns-clause-marks
returns-clause-marks c = marks_meant

pub returns-clause-plain : goal.returns-clause-plain
returns-clause-plain c = plain_marked

pub returns-clause-object : goal.returns-clause-object
returns-clause-object c = marked_object
