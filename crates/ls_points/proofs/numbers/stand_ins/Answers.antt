use Rattle.std.proofs.Common.{◌≡◌, refl, sym, subst, IfOk, List, [], ◌∷◌, length, arith}
use Rattle.ls_points.specs.steps.Numbers.{AreStandIns}
use Rattle.ls_points.proofs.numbers.stand_ins.Goals as goal

pub returns-in-Some-clause-law : goal.returns-in-Some-clause-law
returns-in-Some-clause-law c = subst (λ ends. IfOk c.stand_ins_from.result (λ v. AreStandIns ends v.items)) (sym c.in-Some.ensures.cases.0) c.stand_ins_from.ensures.law

-- a list without elements is empty
empty : {X : Type 0} (xs : List X) → length xs ≡ 0 → xs ≡ []
empty [] h = refl
empty (x ∷ xs) h = absurd (omega arith)

pub returns-in-None-clause-law : goal.returns-in-None-clause-law
returns-in-None-clause-law c = subst (λ ends. IfOk c.stand_ins_of_none.result (λ v. AreStandIns ends v.items)) (sym (empty c.args.ends.now c.in-None.ensures.cases)) c.stand_ins_of_none.ensures.law
