use Rattle.ls_decide.specs.Meanings.{marked}
use Rattle.ls_decide.proofs.MeaningLemmas.{low_meant, high_meant, marked_object}
use Rattle.ls_decide.proofs.laws.every_meaning_of_inclusion.Goals as goal

pub returns-clause-yes : goal.returns-clause-yes
returns-clause-yes c structures a b meaning o included means object h =
    included (marked meaning o) (marked_object structures meaning o means object) h

pub returns-clause-no : goal.returns-clause-no
returns-clause-no c structures a b meaning o w =
    (low_meant structures a meaning o w.is_plain w.inside, λ h. w.outside (high_meant structures b meaning o w.is_plain h))
