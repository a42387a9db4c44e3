use Rattle.ls_tables.specs.steps.Meeting.{meeting_place}
use Rattle.ls_tables.proofs.TableLemmas.{meeting_in_table, is_meeting, properly_before, one_place}
use Rattle.ls_tables.proofs.laws.laws_of_the_table.Goals as goal

pub returns-clause-closed : goal.returns-clause-closed
returns-clause-closed g a b l k = (meeting_place a b, meeting_in_table a b l k, is_meeting a b l k)

pub returns-clause-before : goal.returns-clause-before
returns-clause-before g structures a b l k within = properly_before structures a b l within

pub returns-clause-distinct : goal.returns-clause-distinct
returns-clause-distinct g structures a b l k p q = one_place structures a b l k p q
