use Rattle.ls_spec.proofs.ApproximationLemmas.{low_within, within_high}
use Rattle.ls_spec.proofs.PlainLemmas.{sure-no_predicate}
use Rattle.ls_spec.proofs.laws.one_right_answer.Goals as goal

pub returns-clause-witness : goal.returns-clause-witness
returns-clause-witness c structures a b o included w =
    w.outside (within_high structures b o (included o w.is_object (low_within structures a o w.inside)))

pub returns-clause-without_predicates : goal.returns-clause-without_predicates
returns-clause-without_predicates c = sure-no_predicate
