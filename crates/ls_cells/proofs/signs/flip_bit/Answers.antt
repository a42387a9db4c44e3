use Rattle.std.proofs.Common.{◌<◌, ◌/◌, length, sym, subst}
use Rattle.ls_cells.proofs.PushLemmas.{flipped_back}
use Rattle.ls_cells.proofs.signs.flip_bit.Goals as goal

pub bounds-all-i : goal.bounds-all-i
bounds-all-i c = subst (λ ws. c.args.i / 64 < length ws) (sym c.as_mut_slice-all.ensures.value) c.requires

pub returns : goal.returns
returns c = flipped_back c.args.words.now.items c.as_mut_slice-all.result.now c.args.i c.as_mut_slice-all.ensures.value
