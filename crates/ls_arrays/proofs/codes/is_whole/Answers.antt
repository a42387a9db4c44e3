use Rattle.std.proofs.Common.{sym}
use Rattle.ls_object.specs.declared.table.TheConstants.{TABLE_LEN}
use Rattle.ls_arrays.proofs.CodeLaw.{whole_from_all, not_whole, outside_none, outside_some}
use Rattle.ls_arrays.proofs.codes.is_whole.Goals as goal

pub returns-in-None : goal.returns-in-None
returns-in-None c = sym (whole_from_all c.args.codes.bits (λ k l. outside_none k TABLE_LEN _ _ l (c.complement.ensures k) (c.in-None.ensures k)))

pub returns-in-Some : goal.returns-in-Some
returns-in-Some c =
    let h = c.in-Some.ensures in
    sym (not_whole c.args.codes.bits _ h.within (outside_some _ TABLE_LEN _ _ (c.complement.ensures _) h.has))
