use Rattle.ls_decide.proofs.MeaningLemmas.{low_meant, high_meant}
use Rattle.ls_decide.proofs.laws.every_meaning_of_membership.Goals as goal

pub returns-clause-inside : goal.returns-clause-inside
returns-clause-inside c = low_meant

pub returns-clause-outside : goal.returns-clause-outside
returns-clause-outside c structures s meaning o is_plain outside h = outside (high_meant structures s meaning o is_plain h)
