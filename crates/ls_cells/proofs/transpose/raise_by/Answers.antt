use Rattle.std.proofs.Common.{arith, inl, inr}
use Rattle.ls_cells.proofs.RaiseLemmas.{first_all}
use Rattle.ls_cells.proofs.transpose.raise_by.Goals as goal

pub returns : goal.returns
returns c = first_all c.args.list.now c.smaller-count.result c.args.k c.args.columns.now.items c.raise_first.new.columns.items
    (elim c.smaller-count.ensures.one [ inl e ↦ inl (omega (arith, e, c.len.ensures)) | inr e ↦ inr (omega (arith, e, c.len-2.ensures)) ]) c.raise_first.ensures
