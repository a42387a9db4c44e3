use Rattle.std.proofs.Common.{sym, subst, refl}
use Rattle.ls_cells.specs.Signs.{tabulate, Packed}
use Rattle.ls_cells.proofs.PackedLemmas.{packed_none}
use Rattle.ls_cells.proofs.signs.Signs.new.Goals as goal

pub invariant_of-result : goal.invariant_of-result
invariant_of-result c = subst (λ ws. Packed 0 ws) (sym c.new.ensures.items) packed_none

pub returns : goal.returns
unfolding tabulate
returns c = refl
