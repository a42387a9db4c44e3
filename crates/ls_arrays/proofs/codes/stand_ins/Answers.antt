use Rattle.std.proofs.Common.{ap, map}
use Rattle.ls_object.specs.declared.table.Code.{Code}
use Rattle.ls_object.specs.declared.table.TheConstants.{TABLE_LEN}
use Rattle.ls_arrays.proofs.CodeLaw.{codes_same, complement_below, joined}
use Rattle.ls_arrays.proofs.codes.stand_ins.Goals as goal

pub returns : goal.returns
returns c =
    let index = λ (k : Code). k.index in
    let named = codes_same _ _ (λ k l. c.named-set.ensures k) in
    let others = codes_same _ _ (λ k l. complement_below k TABLE_LEN _ _ _ l (c.complement.ensures k) (c.named-set.ensures k)) in
    joined (map index c.new-out.result) (map index c.push_all.new.out) (map index c.push_least.new.out) _ _ _ _ (ap (map index) c.new-out.ensures) c.in_ok-push_all.ensures c.in_ok-push_least.ensures named others
