use Rattle.std.proofs.Common.{inl, refl}
use Rattle.ls_cells.proofs.index.Index.add.Goals as goal

pub returns : goal.returns
returns c = inl (refl, c.in_ok-push.ensures.ok)
