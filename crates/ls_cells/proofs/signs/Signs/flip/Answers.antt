use Rattle.std.proofs.Common.{◌∙◌, ap, subst, sym}
use Rattle.ls_cells.specs.Signs.{Packed, tabulate, is_set}
use Rattle.ls_cells.proofs.PackedLemmas.{shows, has_word}
use Rattle.ls_cells.proofs.PushLemmas.{flip_shows}
use Rattle.ls_cells.proofs.signs.Signs.flip.Goals as goal

pub flip_bit-requires : goal.flip_bit-requires
flip_bit-requires c = has_word (shows c.self.invariant c.self.view_is) c.args.i c.requires

pub invariant_of-self : goal.invariant_of-self
invariant_of-self c = subst (Packed c.self.inside.len) (sym c.flip_bit.ensures) (flip_shows c.args.i (shows c.self.invariant c.self.view_is) c.requires).packed

pub returns : goal.returns
returns c =
    ap (λ ws. tabulate c.self.inside.len (is_set ws)) c.flip_bit.ensures
    ∙ (flip_shows c.args.i (shows c.self.invariant c.self.view_is) c.requires).shown
